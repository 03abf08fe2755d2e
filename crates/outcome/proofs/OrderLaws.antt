-- The order of paths is a total order.
use Rattle.std.specs.Prelude.{ℕ, ◌<◌, ◌≤◌, ◌≡◌, refl, List, [], ◌∷◌, ◌⊎◌}
use Rattle.std.proofs.Common.{sym, ap₂, inl, inr, arith}
use Rattle.lists.proofs.OrderLaws.{lt_or_le, eq_or_ne}
use Rattle.outcome.specs.Order.{NotAfter}

pub order_refl : (p : List ℕ) → NotAfter p p
order_refl [] = tt
order_refl (x ∷ p) = inr (refl, order_refl p)

pub order_antisymmetric : (p q : List ℕ) → NotAfter p q → NotAfter q p → p ≡ q
order_antisymmetric [] [] h g = refl
order_antisymmetric [] (y ∷ q) h g = absurd g
order_antisymmetric (x ∷ p) [] h g = absurd h
order_antisymmetric (x ∷ p) (y ∷ q) (inl h) (inl g) = absurd (omega arith)
order_antisymmetric (x ∷ p) (y ∷ q) (inl h) (inr g) = absurd (let e = g.0 in omega arith)
order_antisymmetric (x ∷ p) (y ∷ q) (inr h) (inl g) = absurd (let e = h.0 in omega arith)
order_antisymmetric (x ∷ p) (y ∷ q) (inr h) (inr g) = ap₂ ◌∷◌ h.0 (order_antisymmetric p q h.1 g.1)

pub order_trans : (p q r : List ℕ) → NotAfter p q → NotAfter q r → NotAfter p r
order_trans [] q r h g = tt
order_trans (x ∷ p) [] r h g = absurd h
order_trans (x ∷ p) (y ∷ q) [] h g = absurd g
order_trans (x ∷ p) (y ∷ q) (z ∷ r) (inl h) (inl g) = inl (omega arith)
order_trans (x ∷ p) (y ∷ q) (z ∷ r) (inl h) (inr g) = inl (let e = g.0 in omega arith)
order_trans (x ∷ p) (y ∷ q) (z ∷ r) (inr h) (inl g) = inl (let e = h.0 in omega arith)
order_trans (x ∷ p) (y ∷ q) (z ∷ r) (inr h) (inr g) = inr (let e = h.0 in let f = g.0 in omega arith, order_trans p q r h.1 g.1)

pub order_total : (p q : List ℕ) → NotAfter p q ⊎ NotAfter q p
order_total [] q = inl tt
order_total (x ∷ p) [] = inr tt
order_total (x ∷ p) (y ∷ q) = by (lt_or_le x y) (eq_or_ne x y) (order_total p q)
  where
    by : (x < y) ⊎ (y ≤ x) → (x ≡ y) ⊎ (x ≡ y → ⊥) → NotAfter p q ⊎ NotAfter q p → NotAfter (x ∷ p) (y ∷ q) ⊎ NotAfter (y ∷ q) (x ∷ p)
    by (inl l) s t = inl (inl l)
    by (inr l) (inl e) (inl t) = inl (inr (e, t))
    by (inr l) (inl e) (inr t) = inr (inr (sym e, t))
    by (inr l) (inr n) t = inr (inl (omega arith))
