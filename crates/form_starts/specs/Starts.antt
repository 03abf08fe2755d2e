-- Where each letter's arcs start: arcs are in the order of their sources, so one index separates those with sources below the letter from
-- the others.
use Rattle.std.specs.Prelude.{ℕ, ◌<◌, ◌≤◌, ◌≡◌, List, length, get_or}
use Rattle.std.proofs.Props.{props}
use Rattle.automaton.specs.Form.{letters_of, source}

-- r is the first index from n on whose word has no source below i
pub record Skipped (f : List ℕ) (n i r : ℕ) : Type 0 where
  pub from : n ≤ r
  pub inside : r ≤ length f
  pub below : (m : ℕ) → n ≤ m → m < r → source (get_or f m 0) < i
  pub stops : r < length f → i ≤ source (get_or f r 0)

-- the arcs before b have sources below i, the others do not
pub record StartsAt (f : List ℕ) (i b : ℕ) : Type 0 where
  pub past : letters_of f < b
  pub inside : b ≤ length f
  pub below : (n : ℕ) → letters_of f < n → n < b → source (get_or f n 0) < i
  pub above : (n : ℕ) → b ≤ n → n < length f → i ≤ source (get_or f n 0)

-- the starts for 0 to 128: for each letter, and for the number after the last
pub record ArcStarts (f s : List ℕ) : Type 0 where
  pub size : length s ≡ 129
  pub starts : (i : ℕ) → i < 129 → StartsAt f i (get_or s i 0)

-- the starts are right in one way at most: the facts are equations and inequalities of numbers
pub arc_starts-prop : (f s : List ℕ) → IsProp (ArcStarts f s)
arc_starts-prop f s = Prim.hlevel props
