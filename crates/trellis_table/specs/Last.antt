-- The last row of the table: what there is to pay where no column is left.
use Rattle.std.specs.Prelude.{ℕ, ◌+◌, List}
use Rattle.lists.specs.Stored.{Outside}
use Rattle.matrix.specs.Matrix.{Matrix}
use Rattle.automaton.specs.Form.{view}
use Rattle.trellis.specs.Table.{Row}
use Rattle.trellis_row.specs.Letters.{states}

-- the last row was written at `base`, and nothing else
pub record LastFilled (f before after : List ℕ) (base : ℕ) : Type 0 where
  pub row : (M : Matrix) (t : ℕ) → Row (view f) M after base t 0
  pub outside : Outside base (base + states f) before after
