-- The best of all that qualify: none costs less, and of those that cost the same it comes first.
use Rattle.std.specs.Prelude.{ℕ, ◌≤◌, ◌≡◌}

pub record BestOf {A : Type 0} (Qualifies : A → Type 0) (cost : A → ℕ) (NotAfter : A → A → Type 0) (best : A) : Type 0 where
  pub qualifies : Qualifies best
  pub least : (a : A) → Qualifies a → cost best ≤ cost a
  pub first : (a : A) → Qualifies a → cost a ≡ cost best → NotAfter best a
