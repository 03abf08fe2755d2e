-- The columns that the lines of a sheet hold from a place on.
use Rattle.std.proofs.Math.Option.{Option, some, none}
use Rattle.std.specs.Prelude.{List, ℕ}
use Rattle.text_lines.specs.Lines.{lines_of}
use Rattle.sheet_format.specs.Sheet.{every, column_of}

-- the columns of a list of lines, if each is a column line
unfoldable pub columns_of : Option (List (List ℕ)) → Option (List (List ℕ))
columns_of none = none
columns_of (some ls) = every column_of ls

-- the columns in the rest of a sheet
abbrev pub columns_in : List ℕ → Option (List (List ℕ))
columns_in s = columns_of (lines_of s)
