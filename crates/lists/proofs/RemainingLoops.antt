-- Principles of a loop over the numbers up to l: which numbers remain at j, and what the iteration at j takes from them.
use Rattle.std.specs.Prelude.{ℕ, ◌+◌, ◌-◌, ◌<◌, ◌≤◌, ◌≡◌, refl, Bool, true, false, cond, length}
use Rattle.std.proofs.Math.Path.{ap}
use mathlib.Core.List.{List, [], ◌∷◌, ◌++◌, map, flat_map}
use Rattle.std.proofs.Common.{arith}
use Rattle.lists.specs.Lists.{keep, keeping, numbers}
use Rattle.lists.proofs.AscendingLaws.{numbers_here, numbers_past}

-- the numbers from j to l
abbrev pub from : ℕ → ℕ → List ℕ
from l j = numbers j (l + 1 - j)

module _ (l : ℕ) where
  pub from_first : from l 1 ≡ numbers 1 l
  from_first = let e : l + 1 - 1 ≡ l = omega arith in ap (numbers 1) e

  here : (j : ℕ) → j ≤ l → from l j ≡ j ∷ from l (j + 1)
  here j h = numbers_here j (l + 1) (omega arith)

  past : (j : ℕ) → l < j → from l j ≡ []
  past j h = numbers_past j (l + 1) (omega arith)

  module _ (f : ℕ → ℕ) where
    pub map_here : (j : ℕ) → j ≤ l → map f (from l j) ≡ f j ∷ map f (from l (j + 1))
    map_here j h = ap (map f) (here j h)

    pub map_past : (j : ℕ) → l < j → map f (from l j) ≡ []
    map_past j h = ap (map f) (past j h)

  module _ (p : ℕ → Bool) where
    pub keep_here : (j : ℕ) → j ≤ l → keep p (from l j) ≡ keeping (p j) j (keep p (from l (j + 1)))
    unfolding keep
    keep_here j h = ap (keep p) (here j h)

    pub keep_past : (j : ℕ) → l < j → keep p (from l j) ≡ []
    unfolding keep
    keep_past j h = ap (keep p) (past j h)

  module _ (f : ℕ → List ℕ) where
    pub flat_here : (i : ℕ) → i ≤ l → flat_map f (from l i) ≡ f i ++ flat_map f (from l (i + 1))
    unfolding flat_map
    flat_here i h = ap (flat_map f) (here i h)

    pub flat_past : (i : ℕ) → l < i → flat_map f (from l i) ≡ []
    unfolding flat_map
    flat_past i h = ap (flat_map f) (past i h)

-- One element, kept or left out.

pub length_keeping : (b : Bool) (x : ℕ) (xs : List ℕ) → length (keeping b x xs) ≡ cond b 1 0 + length xs
length_keeping true x xs = omega arith
length_keeping false x xs = omega arith

pub map_keeping : (f : ℕ → ℕ) (b : Bool) (x : ℕ) (xs : List ℕ) → map f (keeping b x xs) ≡ keeping b (f x) [] ++ map f xs
map_keeping f true x xs = refl
map_keeping f false x xs = refl
