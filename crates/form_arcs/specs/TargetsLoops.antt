-- The targets of a form's words, one iteration of the loop over words at a time.
use Rattle.std.specs.Prelude.{ℕ, ◌+◌, ◌<◌, ◌≡◌, ◌⊎◌, List, length, get_or, set}
use Rattle.std.proofs.Common.{sym, subst, ◌∙◌, inl, inr, arith, get_or-set_same, get_or-set_other}
use Rattle.lists.proofs.OrderLaws.{eq_or_ne}
use Rattle.lists.proofs.OutsideLaws.{outside_none, outside_set, outside_then, outside_wider}
use Rattle.automaton.specs.Form.{target}
use Rattle.form_arcs.specs.Targets.{TargetsBelow}

module _ (f before : List ℕ) where
  pub targets_none : TargetsBelow f before before 0
  targets_none = record { is = λ k h. absurd (omega arith); outside = outside_none 0 0 before }

  pub targets_listed :
      (ts : List ℕ) (n v : ℕ) → n < length ts → TargetsBelow f before ts n → v ≡ target (get_or f n 0) → TargetsBelow f before (set ts n v) (n + 1)
  targets_listed ts n v h b e =
      record {
        is = λ k m. is k m (eq_or_ne k n);
        outside = outside_then (outside_wider 0 (n + 1) (omega arith) (omega arith) b.outside) (outside_set 0 (n + 1) ts n v (omega arith) (omega arith));
      }
    where
      is : (k : ℕ) → k < n + 1 → (k ≡ n) ⊎ (k ≡ n → ⊥) → get_or (set ts n v) k 0 ≡ target (get_or f k 0)
      is k m (inl q) = subst (λ i. get_or (set ts n v) i 0 ≡ target (get_or f i 0)) (sym q) (get_or-set_same ts n v 0 h ∙ e)
      is k m (inr d) = get_or-set_other ts n k v 0 d ∙ b.is k (omega arith)
