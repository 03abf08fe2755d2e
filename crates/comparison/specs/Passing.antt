-- What is known of two forms, a matrix and work memory that pass the checks of Compare.
use Rattle.std.specs.Prelude.{ℕ, ◌+◌, ◌*◌, ◌≤◌, ◌≡◌, true, List, length}
use Rattle.automaton.specs.Form.{valid_form, alphabet_of}
use Rattle.matrix.specs.Matrix.{Matrix}
use Rattle.matrix.specs.Paths.{CostsPass}
use Rattle.comparison.specs.Checks.{larger_need}

-- the matrix fits both forms, and the work memory the larger one
pub record FitsBoth (f g : List ℕ) (M : Matrix) (room : ℕ) : Type 0 where
  pub first : valid_form f ≡ true
  pub second : valid_form g ≡ true
  pub few : M.count ≤ 255
  pub wide_first : M.width ≡ alphabet_of f + 1
  pub wide_second : M.width ≡ alphabet_of g + 1
  pub full : length M.costs ≡ M.count * M.width
  pub pass : CostsPass M
  pub work : larger_need f g M ≤ room
