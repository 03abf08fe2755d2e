-- The whole trace: what it relies on, and what it promises of the path memory.
use Rattle.std.specs.Prelude.{ℕ, ◌+◌, ◌*◌, ◌≤◌, ◌<◌, ◌≡◌, List, length, get_or}
use Rattle.lists.specs.Memory.{written}
use Rattle.automaton.specs.Automaton.{Automaton}
use Rattle.automaton.specs.Form.{letters_of, alphabet_of, view}
use Rattle.automaton.specs.Valid.{Valid}
use Rattle.matrix.specs.Matrix.{Matrix}
use Rattle.trellis.specs.Impossible.{TOP}
use Rattle.trellis.specs.BestWay.{BestFrom}
use Rattle.trellis.specs.Extended.{extended}
use Rattle.trellis.specs.Table.{Table}

-- what the trace relies on: a valid form, a matrix of its width, and the table of costs to go, by which there is a way from state 0
pub record Ready (f : List ℕ) (M : Matrix) (work : List ℕ) (base stride : ℕ) : Type 0 where
  pub valid : Valid f
  pub wide : M.width ≡ alphabet_of f + 1
  pub size : M.count * M.width ≤ length M.costs
  pub room : base + M.count * stride + 2 * letters_of f < length work
  pub table : Table (view f) M work base stride
  pub below : get_or work base 0 < TOP

-- what it promises: the memory begins with the best of all ways from state 0, one label for each column, and the rest is as it was
pub record Traced (A : Automaton) (M : Matrix) (before after : List ℕ) : Type 0 where
  pub path : List ℕ
  pub memory : after ≡ written path before
  pub best : BestFrom (extended A) M 0 M.count (λ s. s ≡ 0) path
