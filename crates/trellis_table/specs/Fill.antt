-- What filling the table, from the last row to the first, needs and what it promises.
use Rattle.std.specs.Prelude.{ℕ, ◌+◌, ◌*◌, ◌≤◌, ◌≡◌, List, length, drop}
use Rattle.lists.specs.Stored.{Outside}
use Rattle.matrix.specs.Matrix.{Matrix}
use Rattle.automaton.specs.Form.{alphabet_of, view}
use Rattle.trellis.specs.CostToGo.{CostToGo}
use Rattle.trellis.specs.Extended.{extended}
use Rattle.trellis.specs.Table.{Row, Table}
pub use Rattle.trellis_row.specs.Letters.{states}

-- the matrix has the form's width and all its costs, and the memory has room for a table whose rows are `stride` apart
pub record Sized (f : List ℕ) (M : Matrix) (work : List ℕ) (stride : ℕ) : Type 0 where
  pub width : M.width ≡ alphabet_of f + 1
  pub size : length M.costs ≡ M.count * M.width
  pub row : states f ≤ stride
  pub room : (M.count + 1) * stride ≤ length work

-- the rows from that of column t on were written, and nothing after the table; the words between rows may be written too
pub record RowsFilled (f : List ℕ) (M : Matrix) (before after : List ℕ) (stride t : ℕ) : Type 0 where
  pub rows : (u n : ℕ) → t ≤ u → u + n ≡ M.count → Row (view f) M after (u * stride) u n
  pub outside : Outside 0 ((M.count + 1) * stride) before after

-- the table was written, and nothing after it; the answer is the cost to go of state 0 over all columns: the least price, or TOP
pub record Filled (f : List ℕ) (M : Matrix) (before after : List ℕ) (answer : ℕ) : Type 0 where
  pub table : Table (view f) M after 0 (states f)
  pub beyond : drop ((M.count + 1) * states f) after ≡ drop ((M.count + 1) * states f) before
  pub price : CostToGo (extended (view f)) M 0 M.count 0 answer
