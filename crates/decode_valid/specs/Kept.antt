-- Demand 1 past the checks: which lent memory is as it was.
use Rattle.std.specs.Prelude.{ℕ, ◌≡◌, List, length, drop}
use Rattle.refusal.specs.Report.{Report}
use Rattle.matrix.specs.Matrix.{Matrix}
use Rattle.decode_valid.specs.Lent.{Lent}

-- a lent list has the length that it had, and from place n on it is as it was
pub record KeptFrom (n : ℕ) (before after : List ℕ) : Type 0 where
  pub rest : drop n after ≡ drop n before
  pub size : length after ≡ length before

-- after the path's T labels, after the counted word and after the needed work words, memory is as it was
pub record Kept (need : ℕ) (M : Matrix) (before after : Lent) (answer : Report) : Type 0 where
  pub path : KeptFrom M.count before.path after.path
  pub word : KeptFrom answer.filled before.word after.word
  pub work : KeptFrom need before.work after.work
