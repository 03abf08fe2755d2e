-- Laws of the best: it depends only on what qualifies, and there is at most one.
use Rattle.std.specs.Prelude.{ℕ, ◌≤◌, ◌≡◌}
use Rattle.std.proofs.Common.{sym, arith}
use Rattle.outcome.specs.Best.{BestOf}

module _ {A : Type 0} {N : A → A → Type 0} where
  -- the best depends only on what qualifies
  pub best_same :
      {P Q : A → Type 0} {cost : A → ℕ} {best : A} → ((a : A) → P a → Q a) → ((a : A) → Q a → P a) → BestOf P cost N best → BestOf Q cost N best
  best_same to from b =
      record {
        qualifies = to _ b.qualifies;
        least = λ a q. b.least a (from a q);
        first = λ a q e. b.first a (from a q) e;
      }

  -- there is at most one best, where two that are not after each other are equal
  pub best_unique :
      {P : A → Type 0} {cost : A → ℕ} {a b : A} → ((x y : A) → N x y → N y x → x ≡ y) → BestOf P cost N a → BestOf P cost N b → a ≡ b
  best_unique {cost = cost} {a = a} {b = b} antisymmetric p q =
      let low : cost a ≤ cost b = p.least b q.qualifies in
      let high : cost b ≤ cost a = q.least a p.qualifies in
      let e : cost b ≡ cost a = omega arith in
      antisymmetric a b (p.first b q.qualifies e) (q.first a p.qualifies (sym e))
