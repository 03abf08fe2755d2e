-- A table of costs to go in a list of numbers: one row for each column and one for the end, each with the states 0 to 2L.
use Rattle.std.specs.Prelude.{ℕ, ◌+◌, ◌*◌, ◌≤◌, ◌≡◌, List, get_or}
use Rattle.automaton.specs.Automaton.{Automaton}
use Rattle.matrix.specs.Matrix.{Matrix}
use Rattle.trellis.specs.CostToGo.{CostToGo}
use Rattle.trellis.specs.Extended.{extended}

-- the row of column t, with n columns left, begins at `base`
abbrev pub Row : Automaton → Matrix → List ℕ → (base t n : ℕ) → Type 0
Row A M work base t n = (s : ℕ) → s ≤ 2 * A.letters → CostToGo (extended A) M t n s (get_or work (base + s) 0)

-- the rows begin at `base` and are `stride` apart
abbrev pub Table : Automaton → Matrix → List ℕ → (base stride : ℕ) → Type 0
Table A M work base stride = (t n : ℕ) → t + n ≡ M.count → Row A M work (base + t * stride) t n
