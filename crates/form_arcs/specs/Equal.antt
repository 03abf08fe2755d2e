-- Letters that have arcs to the same letters as the letter before them.
use Rattle.std.specs.Prelude.{ℕ, ◌+◌, ◌-◌, ◌<◌, ◌≤◌, ◌≡◌, Bool, true, false, List, get_or, replicate}
use Rattle.lists.specs.Marks.{Marks}
use Rattle.automaton.specs.Form.{letters_of, target}

-- r is true exactly if P holds
pub record Decides (P : Type 0) (r : Bool) : Type 0 where
  pub holds : r ≡ true → P
  pub found : P → r ≡ true

-- the n arc words from b on have the targets of the n from a on
abbrev pub SameTargets : (f : List ℕ) (a b n : ℕ) → Type 0
SameTargets f a b n = (k : ℕ) → k < n → target (get_or f (a + k) 0) ≡ target (get_or f (b + k) 0)

-- letter i has as many arcs as the letter before it, to the same letters; s has the places where each letter's arcs start
abbrev pub SameArcs : (f s : List ℕ) (i : ℕ) → Type 0
SameArcs f s i =
    (get_or s (i + 1) 0 - get_or s i 0 ≡ get_or s i 0 - get_or s (i - 1) 0)
    × SameTargets f (get_or s (i - 1) 0) (get_or s i 0) (get_or s (i + 1) 0 - get_or s i 0)

-- letter i shares its arcs with the letter before it
abbrev pub Shares : (f s : List ℕ) (i : ℕ) → Type 0
Shares f s i = (2 ≤ i) × (i ≤ letters_of f) × SameArcs f s i

-- place k is that of letter i, which shares its arcs
abbrev pub SharesAt : (f s : List ℕ) (i k : ℕ) → Type 0
SharesAt f s i k = (k ≡ i) × Shares f s i

-- the letters that are marked are those that share their arcs with the letter before them
abbrev pub EqualArcs : (f s : List ℕ) (same : List Bool) → Type 0
EqualArcs f s same = Marks (Shares f s) (replicate 128 false) same
