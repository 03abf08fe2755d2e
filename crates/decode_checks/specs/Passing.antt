-- What is known of a matrix and of lent memory that pass the checks.
use Rattle.std.specs.Prelude.{ℕ, ◌+◌, ◌*◌, ◌≤◌, ◌≡◌, length}
use Rattle.matrix.specs.Matrix.{Matrix}
use Rattle.matrix.specs.Paths.{CostsPass}
use Rattle.decode_checks.specs.Checks.{Rooms, needed}

-- the matrix and the memory fit a form of l letters over k characters
pub record Fits (k l : ℕ) (M : Matrix) (rooms : Rooms) : Type 0 where
  pub few : M.count ≤ 255
  pub wide : M.width ≡ k + 1
  pub full : length M.costs ≡ M.count * M.width
  pub pass : CostsPass M
  pub path : M.count ≤ rooms.path
  pub word : M.count ≤ rooms.word
  pub work : needed M.count l ≤ rooms.work
