-- The labels from a place of a path on, and how long they can be as text.
use Rattle.std.specs.Prelude.{ℕ, ◌+◌, ◌-◌, ◌*◌, ◌<◌, ◌≤◌, ◌≡◌, refl, length, get_or, drop}
use Rattle.std.proofs.Common.{ap, arith, lit≤, length-append}
use mathlib.Core.List.{List, [], ◌∷◌, ◌++◌, flat_map}
use Rattle.lists.proofs.EachLaws.{drop_here, drop_all}
use Rattle.lists.specs.Each.{Each}
use Rattle.sheet_decimal.specs.Numerals.{decimal}
use Rattle.sheet_decimal.specs.NumeralsLaws.{decimal_short}
use Rattle.sheet_path.specs.Labels.{following, spaced}

-- the label at place i, and those after it
pub following_here : (p : List ℕ) (i : ℕ) → i < length p → following (drop i p) ≡ (32 ∷ decimal (get_or p i 0)) ++ following (drop (i + 1) p)
unfolding following flat_map
following_here p i h = ap following (drop_here 0 p i h)

pub following_end : (p : List ℕ) (i : ℕ) → length p ≤ i → following (drop i p) ≡ []
unfolding following flat_map
following_end p i h = ap following (drop_all p i h)

pub spaced_none : (p : List ℕ) → length p ≡ 0 → spaced p ≡ []
unfolding spaced
spaced_none [] h = refl
spaced_none (x ∷ p) h = absurd (omega arith)

pub spaced_some : (p : List ℕ) → 1 ≤ length p → spaced p ≡ decimal (get_or p 0 0) ++ following (drop 1 p)
unfolding spaced
spaced_some [] h = absurd (omega arith)
spaced_some (x ∷ p) h = refl

pub spaced_parts : (p q : List ℕ) (x : ℕ) → p ≡ x ∷ q → spaced p ≡ decimal x ++ following q
unfolding spaced
spaced_parts p q x e = ap spaced e

-- How long they can be where each label has at most 2 digits.

following_short : (p : List ℕ) → Each (λ x. x < 100) p → length (following p) ≤ 3 * length p
unfolding following flat_map
following_short [] h = lit≤ tt
following_short (x ∷ p) h =
    let a = decimal_short 1 x (let b = h.0 in omega arith) in
    let b = following_short p h.1 in
    omega (arith, length-append (decimal x) (following p))

pub spaced_short : (p : List ℕ) → Each (λ x. x < 100) p → length (spaced p) ≤ 3 * length p - 1
unfolding spaced
spaced_short [] h = lit≤ tt
spaced_short (x ∷ p) h =
    let a = decimal_short 1 x (let b = h.0 in omega arith) in
    let b = following_short p h.1 in
    omega (arith, length-append (decimal x) (following p))
