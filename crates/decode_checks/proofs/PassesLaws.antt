-- Which costs pass refusal 13.
use Rattle.std.specs.Prelude.{ℕ, ◌≤◌, ◌≡◌, true, ◌⊎◌, ◌↔◌, leb, eqb}
use Rattle.std.proofs.Common.{inl, inr, ⊎_elim}
use borrow.Author.Tests.{eq-eqb, eqb-true, leb-true, le-leb}
use Rattle.lists.proofs.OrderLaws.{or_either, or_left, or_right}
use Rattle.matrix.specs.Matrix.{BARRED}
use Rattle.decode_checks.specs.Checks.{passes}

-- refusal 13 lets through the costs up to 1,000,000 and 4,294,967,295, and no others
pub passes_exactly : (c : ℕ) → (passes c ≡ true) ↔ ((c ≤ 1000000) ⊎ (c ≡ 4294967295))
passes_exactly c = (
  λ h. ⊎_elim (λ l. inl (leb-true c 1000000 l)) (λ e. inr (eqb-true c BARRED e)) (or_either (leb c 1000000) (eqb c BARRED) h),
  ⊎_elim (λ l. or_left (leb c 1000000) (eqb c BARRED) (le-leb c 1000000 l))
      (λ e. or_right (leb c 1000000) (eqb c BARRED) (eq-eqb c BARRED e)),
)
