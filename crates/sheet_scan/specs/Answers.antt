-- What `scan` promises: it answers with the sheet that the input is, or that it is none, and stores the sheet's costs.
use Rattle.std.specs.Prelude.{◌≡◌, List, ℕ, length, Option as Answer, Some, None}
use Rattle.std.proofs.Math.Option.{Option, some, none}
use Rattle.lists.specs.Memory.{written}
use Rattle.sheet_format.specs.Sheet.{Sheet, sheet_of, matrix_of}
use Rattle.sheet_scan.specs.declared.Sheet.{Sheet as Sizes}

-- a sheet as it is answered: the lengths of its two lines, and its matrix's width and count
abbrev pub answer_of : Option Sheet → Answer Sizes
answer_of none = None
answer_of (some S) =
    Some (record { alphabet = length S.alphabet; text = length S.text; width = (matrix_of S).width; count = (matrix_of S).count })

-- The costs of the sheet are at the front of the lent memory, and after them what was there. If there is no sheet, the memory, which is
-- exactly what the largest sheet needs, may hold anything: how many costs were stored is the program's choice.
pub record Scans (input before after : List ℕ) (r : Answer Sizes) : Type 0 where
  pub answer : r ≡ answer_of (sheet_of input)
  pub costs : (S : Sheet) → sheet_of input ≡ some S → after ≡ written (matrix_of S).costs before
  pub size : length after ≡ length before
