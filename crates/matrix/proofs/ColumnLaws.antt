-- Laws: the costs of one column, as a part of the matrix's list.
use Rattle.std.specs.Prelude.{ℕ, ◌+◌, ◌*◌, ◌-◌, ◌<◌, ◌≤◌, ◌≡◌, length, get_or, take, drop}
use Rattle.std.proofs.Common.{sym, ap, ◌∙◌, arith, mul-le-mul_right}
use Rattle.lists.proofs.PartLaws.{part_at, part_length}
use Rattle.matrix.specs.Matrix.{Matrix, ColumnOf}

-- column t of a matrix that has all its costs
module _ (M : Matrix) (full : length M.costs ≡ M.count * M.width) (t : ℕ) (few : t < M.count) where
  pub column_inside : t * M.width + M.width ≤ length M.costs
  column_inside = let a = mul-le-mul_right {m = t + 1} {n = M.count} M.width (omega arith) in omega arith

  -- from place a up to e
  module _ (a e : ℕ) (at : a ≡ t * M.width) (end : e ≡ a + M.width) where
    pub column_length : length (take (e - a) (drop a M.costs)) ≡ M.width
    column_length = let c = column_inside in let l = part_length M.costs a e (omega arith) in omega arith

    pub column_of : (k : ℕ) → k < M.width → ColumnOf k M t (take (e - a) (drop a M.costs))
    column_of k wide x h = sym (part_at M.costs a e 0 x (omega arith) ∙ ap (λ n. get_or M.costs (n + x) 0) at)
