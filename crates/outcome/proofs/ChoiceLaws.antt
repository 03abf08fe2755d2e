-- The order of paths as a test, and the better of two outcomes.
use Rattle.std.specs.Prelude.{ℕ, ◌≤◌, Bool, ◌&&◌, ◌||◌, List, [], ◌∷◌}
use Rattle.std.proofs.Math.Path.{◌≡◌, refl}
use Rattle.std.proofs.Common.{sym}
use Rattle.std.proofs.Math.Bool.{true, false}
use Rattle.std.proofs.Math.Option.{Option, some, none}
use Rattle.std.proofs.Math.Logic.{inl, inr}
use native.Mathlib.Omega.{arith}
use Rattle.std.proofs.Math.Dec.{ltb, eqb}
use borrow.Author.Tests.{ltb-true, ltb-false, eqb-true, eqb-false}
use Rattle.outcome.specs.Order.{NotAfter}

-- the order of paths, as a test
unfoldable pub not_after : List ℕ → List ℕ → Bool
not_after [] q = true
not_after (x ∷ p) [] = false
not_after (x ∷ p) (y ∷ q) = ltb x y || (eqb x y && not_after p q)

pub not_after_true : (p q : List ℕ) → not_after p q ≡ true → NotAfter p q
unfolding not_after
not_after_true [] q e = tt
not_after_true (x ∷ p) [] e = let z : ◌≡◌ {A = ℕ} 0 1 = cc in absurd (omega arith)
not_after_true (x ∷ p) (y ∷ q) e = by (ltb x y) refl (eqb x y) refl (not_after_true p q) e
  where
    by :
        (s : Bool) → ltb x y ≡ s → (t : Bool) → eqb x y ≡ t → (not_after p q ≡ true → NotAfter p q) → (s || (t && not_after p q)) ≡ true
        → NotAfter (x ∷ p) (y ∷ q)
    by true e t f h g = inl (ltb-true x y e)
    by false e true f h g = inr (eqb-true x y f, h g)
    by false e false f h g = let z : ◌≡◌ {A = ℕ} 0 1 = cc in absurd (omega arith)

pub not_after_false : (p q : List ℕ) → not_after p q ≡ false → NotAfter q p
unfolding not_after
not_after_false [] q e = let z : ◌≡◌ {A = ℕ} 0 1 = cc in absurd (omega arith)
not_after_false (x ∷ p) [] e = tt
not_after_false (x ∷ p) (y ∷ q) e = by (ltb x y) refl (eqb x y) refl (not_after_false p q) e
  where
    by :
        (s : Bool) → ltb x y ≡ s → (t : Bool) → eqb x y ≡ t → (not_after p q ≡ false → NotAfter q p) → (s || (t && not_after p q)) ≡ false
        → NotAfter (y ∷ q) (x ∷ p)
    by true e t f h g = let z : ◌≡◌ {A = ℕ} 0 1 = cc in absurd (omega arith)
    by false e true f h g = inr (sym (eqb-true x y f), h g)
    by false e false f h g = inl (let l = ltb-false x y e in let n = eqb-false x y f in omega arith)

-- whether p is preferred to q: it costs less, or the same and is not after q
unfoldable pub preferred : (List ℕ → ℕ) → List ℕ → List ℕ → Bool
preferred cost p q = ltb (cost p) (cost q) || (eqb (cost p) (cost q) && not_after p q)

abbrev pub chosen : Bool → List ℕ → List ℕ → Option (List ℕ)
chosen true p q = some p
chosen false p q = some q

unfoldable pub better : (List ℕ → ℕ) → Option (List ℕ) → Option (List ℕ) → Option (List ℕ)
better cost none b = b
better cost (some p) none = some p
better cost (some p) (some q) = chosen (preferred cost p q) p q

module _ (cost : List ℕ → ℕ) where
  pub preferred_true : (p q : List ℕ) → preferred cost p q ≡ true → (cost p ≤ cost q) × (cost p ≡ cost q → NotAfter p q)
  unfolding preferred
  preferred_true p q e = by (ltb (cost p) (cost q)) refl (eqb (cost p) (cost q)) refl e
    where
      by :
          (s : Bool) → ltb (cost p) (cost q) ≡ s → (t : Bool) → eqb (cost p) (cost q) ≡ t → (s || (t && not_after p q)) ≡ true
          → (cost p ≤ cost q) × (cost p ≡ cost q → NotAfter p q)
      by true e t f g = let l = ltb-true (cost p) (cost q) e in (omega arith, λ z. absurd (omega arith))
      by false e true f g = let l = eqb-true (cost p) (cost q) f in (omega arith, λ z. not_after_true p q g)
      by false e false f g = let z : ◌≡◌ {A = ℕ} 0 1 = cc in absurd (omega arith)

  pub preferred_false : (p q : List ℕ) → preferred cost p q ≡ false → (cost q ≤ cost p) × (cost p ≡ cost q → NotAfter q p)
  unfolding preferred
  preferred_false p q e = by (ltb (cost p) (cost q)) refl (eqb (cost p) (cost q)) refl e
    where
      by :
          (s : Bool) → ltb (cost p) (cost q) ≡ s → (t : Bool) → eqb (cost p) (cost q) ≡ t → (s || (t && not_after p q)) ≡ false
          → (cost q ≤ cost p) × (cost p ≡ cost q → NotAfter q p)
      by true e t f g = let z : ◌≡◌ {A = ℕ} 0 1 = cc in absurd (omega arith)
      by false e true f g = let l = ltb-false (cost p) (cost q) e in (l, λ z. not_after_false p q g)
      by false e false f g =
          let l = ltb-false (cost p) (cost q) e in (l, λ z. absurd (eqb-false (cost p) (cost q) f z))
