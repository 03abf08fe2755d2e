-- Laws of the test whether two lists are the same: what it decides, and how a loop goes through both lists.
use Rattle.std.specs.Prelude.{ℕ, ◌+◌, ◌≤◌, ◌<◌, ◌≡◌, refl, Bool, true, false, ◌&&◌, List, [], ◌∷◌, length, get_or, drop, eqb}
use Rattle.std.proofs.Common.{ap₂, arith, eqb-true, eq-eqb, ne_eqb}
use Rattle.lists.proofs.OrderLaws.{and_left, and_right}
use Rattle.lists.proofs.EachLaws.{drop_here, drop_all}
use Rattle.lists.specs.Lists.{same_list}

pub same_list_true : (p q : List ℕ) → same_list p q ≡ true → p ≡ q
same_list_true [] [] e = refl
same_list_true [] (y ∷ q) e = let z : ◌≡◌ {A = ℕ} 0 1 = cc in absurd (omega arith)
same_list_true (x ∷ p) [] e = let z : ◌≡◌ {A = ℕ} 0 1 = cc in absurd (omega arith)
same_list_true (x ∷ p) (y ∷ q) e =
    ap₂ ◌∷◌ (eqb-true x y (and_left (eqb x y) (same_list p q) e)) (same_list_true p q (and_right (eqb x y) (same_list p q) e))

pub same_list_self : (p : List ℕ) → same_list p p ≡ true
same_list_self [] = refl
same_list_self (x ∷ p) = rw (eq-eqb x x refl) (same_list_self p)

-- lists of different lengths
pub same_list_length : (p q : List ℕ) → (length p ≡ length q → ⊥) → same_list p q ≡ false
same_list_length [] [] h = absurd (h refl)
same_list_length [] (y ∷ q) h = refl
same_list_length (x ∷ p) [] h = refl
same_list_length (x ∷ p) (y ∷ q) h = by (eqb x y) (same_list_length p q (λ e. h (omega arith)))
  where
    by : (t : Bool) → same_list p q ≡ false → (t && same_list p q) ≡ false
    by true e = e
    by false e = refl

-- from an index on
module _ (p q : List ℕ) (i : ℕ) where
  pub same_list_here :
      i < length p → i < length q → get_or p i 0 ≡ get_or q i 0 → same_list (drop i p) (drop i q) ≡ same_list (drop (i + 1) p) (drop (i + 1) q)
  same_list_here l k e = rw (drop_here 0 p i l, drop_here 0 q i k, eq-eqb (get_or p i 0) (get_or q i 0) e)

  pub same_list_not : i < length p → i < length q → (get_or p i 0 ≡ get_or q i 0 → ⊥) → same_list (drop i p) (drop i q) ≡ false
  same_list_not l k e = rw (drop_here 0 p i l, drop_here 0 q i k, ne_eqb (get_or p i 0) (get_or q i 0) e)

  pub same_list_end : length p ≤ i → length q ≤ i → same_list (drop i p) (drop i q) ≡ true
  same_list_end l k = rw (drop_all p i l, drop_all q i k)
