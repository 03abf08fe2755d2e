-- The better of two outcomes is the outcome of both sets together.
use Rattle.std.specs.Prelude.{ℕ, ◌≤◌, Bool, List, ◌⊎◌}
use Rattle.std.proofs.Math.Path.{◌≡◌, refl}
use Rattle.std.proofs.Common.{sym}
use Rattle.std.proofs.Math.Bool.{true, false}
use Rattle.std.proofs.Math.Option.{Option, some, none}
use Rattle.std.proofs.Math.Logic.{inl, inr, ⊎_elim}
use native.Mathlib.Omega.{arith}
use Rattle.outcome.specs.Best.{BestOf}
use Rattle.matrix.specs.Matrix.{Matrix, price}
use Rattle.outcome.specs.Order.{NotAfter}
use Rattle.outcome.proofs.OrderLaws.{order_trans}
use Rattle.outcome.specs.Outcome.{Rival, OutcomeOf, Outcome}
use Rattle.outcome.proofs.OutcomeLaws.{outcome_of_same}
use Rattle.outcome.proofs.ChoiceLaws.{preferred, chosen, better, preferred_true, preferred_false}

module _ (cost : List ℕ → ℕ) where
  -- the one that is preferred is the best of both
  best_either :
      (P Q : List ℕ → Type 0) (p q : List ℕ) → BestOf P cost NotAfter p → BestOf Q cost NotAfter q
      → (cost p ≤ cost q) × (cost p ≡ cost q → NotAfter p q) → BestOf (λ a. P a ⊎ Q a) cost NotAfter p
  best_either P Q p q b c h =
      record {
        qualifies = inl b.qualifies;
        least = λ a. ⊎_elim (λ x. b.least a x) (λ y. let l = c.least a y in let k = h.0 in omega arith);
        first = λ a. ⊎_elim (λ x e. b.first a x e) (λ y e. other a y e);
      }
    where
      other : (a : List ℕ) → Q a → cost a ≡ cost p → NotAfter p a
      other a y e =
          let l : cost q ≤ cost a = c.least a y in
          let k : cost p ≤ cost q = h.0 in
          order_trans p q a (h.1 (omega arith)) (c.first a y (omega arith))

  -- the better of two outcomes is the outcome of both together
  pub outcome_either :
      (P Q : List ℕ → Type 0) (a b : Option (List ℕ)) → OutcomeOf P cost a → OutcomeOf Q cost b
      → OutcomeOf (λ p. P p ⊎ Q p) cost (better cost a b)
  unfolding better
  outcome_either P Q none b h g = outcome_of_same cost (λ p y. inr y) (λ p. ⊎_elim (λ x. absurd (h p x)) (λ y. y)) b g
  outcome_either P Q (some p) none h g = outcome_of_same cost (λ p x. inl x) (λ p. ⊎_elim (λ x. x) (λ y. absurd (g p y))) (some p) h
  outcome_either P Q (some p) (some q) h g = by (preferred cost p q) refl
    where
      by : (t : Bool) → preferred cost p q ≡ t → OutcomeOf (λ p. P p ⊎ Q p) cost (chosen t p q)
      by true e = best_either P Q p q h g (preferred_true cost p q e)
      by false e =
          let w = preferred_false cost p q e in
          outcome_of_same cost (λ p. ⊎_elim inr inl) (λ p. ⊎_elim inr inl) (some q) (best_either Q P q p g h (w.0, λ z. w.1 (sym z)))

-- for the words of either set the outcome is the better of the two outcomes
pub outcome_union :
    (M : Matrix) (Word₁ Word₂ : List ℕ → Type 0) (a b : Option (List ℕ)) → Outcome Word₁ M a → Outcome Word₂ M b
    → Outcome (λ w. Word₁ w ⊎ Word₂ w) M (better (price M) a b)
outcome_union M Word₁ Word₂ a b h g =
    outcome_of_same (price M)
    (λ p. ⊎_elim (λ r. record { path = r.path; word = inl r.word }) (λ r. record { path = r.path; word = inr r.word }))
    (λ p r. ⊎_elim (λ w. inl (record { path = r.path; word = w })) (λ w. inr (record { path = r.path; word = w })) r.word)
    (better (price M) a b) (outcome_either (price M) (Rival Word₁ M) (Rival Word₂ M) a b h g)
