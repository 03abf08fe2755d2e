-- A row of the table, at `here`, from the row of the next column, which is `stride` further on; what is promised calls that place `next`.
use Rattle.std.specs.Prelude.{ℕ, ◌+◌, ◌*◌, ◌-◌, ◌<◌, ◌≤◌, min, ◌≡◌, List, get_or}
use Rattle.lists.specs.Least.{Least}
use Rattle.lists.specs.Stored.{Outside}
use Rattle.automaton.specs.Form.{letters_of, label_of, view}
use Rattle.trellis.specs.Impossible.{TOP, plus}
use Rattle.trellis.specs.Cells.{ByArc}
use Rattle.trellis_keys.specs.Keys.{Ahead, total}
use Rattle.trellis_row.specs.Letters.{states}

-- what a row is computed from, beside what is looked up in the form
pub record RowReady (f column work : List ℕ) (here stride : ℕ) : Type 0 where
  pub ahead : Ahead f column work (here + stride)
  pub apart : 2 * letters_of f < stride

-- The numbers of a row, by the costs of its column and the row at `next`.

-- the price of a step to letter j and of all that comes after it, at most TOP
abbrev pub onward : (f column work : List ℕ) (next j : ℕ) → ℕ
onward f column work next j = min TOP (total f column work next j)

-- in the blanks after letter i, or in state 0 where i is 0: staying there, or going along any arc
pub record BlanksCell (f column work : List ℕ) (next i v : ℕ) : Type 0 where
  pub all : ℕ
  pub along : Least TOP (ByArc (view f) (onward f column work next) i 0) all
  pub is : v ≡ min (plus (get_or column 0 0) (get_or work (next + 2 * i) 0)) all

-- on letter i: staying on it, going into the blanks, or going along an arc to another label
pub record LetterCell (f column work : List ℕ) (next i v : ℕ) : Type 0 where
  pub other : ℕ
  pub along : Least TOP (ByArc (view f) (onward f column work next) i (label_of f i)) other
  pub is : v ≡ min (min (onward f column work next i) (plus (get_or column 0 0) (get_or work (next + 2 * i) 0))) other

-- the row at `here` was written, and nothing else
pub record RowFilled (f column : List ℕ) (before after : List ℕ) (here next : ℕ) : Type 0 where
  pub blanks : (i : ℕ) → i ≤ letters_of f → BlanksCell f column before next i (get_or after (here + 2 * i) 0)
  pub on : (i : ℕ) → 1 ≤ i → i ≤ letters_of f → LetterCell f column before next i (get_or after (here + (2 * i - 1)) 0)
  pub outside : Outside here (here + states f) before after
