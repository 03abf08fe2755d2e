-- Document 01's sheet, the edges of the layout, and texts that are no sheet, computed.
use Rattle.std.specs.Prelude.{◌≡◌, refl, Bool, true, false, not, ℕ}
use Rattle.std.proofs.Math.Option.{Option, some, none}
use mathlib.Core.List.{List, [], ◌∷◌, map, flatten}
use Rattle.lists.specs.Lists.{keep, numbers}
use Rattle.lists.specs.Each.{all}
use Rattle.text.specs.Bytes.{bytes}
use Rattle.lists.specs.Cases.{provided}
use Rattle.matrix.specs.Matrix.{matrix}
use Rattle.text_lines.specs.Lines.{onto, pieces, both, closed}
use Rattle.sheet_format.specs.Sheet.{every, numeral_of, cost_of, column_of, Sheet, laid, sheet_from, sheet_of, matrix_of}

-- document 01's sheet
column : List ℕ
column = 5 ∷ (1 ∷ (9 ∷ []))

document : Sheet
document = record { alphabet = bytes "ab"; text = bytes "aa"; columns = column ∷ (column ∷ (column ∷ [])) }

document_sheet : sheet_of (bytes "ab\naa\n5 1 9\n5 1 9\n5 1 9\n") ≡ some document
unfolding document column sheet_of sheet_from laid flatten column_of cost_of numeral_of closed every both pieces onto provided
document_sheet = refl

document_matrix : matrix_of document ≡ matrix (5 ∷ (1 ∷ (9 ∷ (5 ∷ (1 ∷ (9 ∷ (5 ∷ (1 ∷ (9 ∷ []))))))))) 3 3
unfolding document column flatten
document_matrix = refl

-- "one line for each column", "one column after another": the first line to try, `ab` over (5,1,9)(5,9,2)
two_columns : Sheet
two_columns = record { alphabet = bytes "ab"; text = bytes "ab"; columns = (5 ∷ (1 ∷ (9 ∷ []))) ∷ ((5 ∷ (9 ∷ (2 ∷ []))) ∷ []) }

two_columns_sheet : sheet_of (bytes "ab\nab\n5 1 9\n5 9 2\n") ≡ some two_columns
unfolding two_columns sheet_of sheet_from laid flatten column_of cost_of numeral_of closed every both pieces onto provided
two_columns_sheet = refl

two_columns_matrix : matrix_of two_columns ≡ matrix (5 ∷ (1 ∷ (9 ∷ (5 ∷ (9 ∷ (2 ∷ [])))))) 3 2
unfolding two_columns flatten
two_columns_matrix = refl

-- "a sheet writes it as a lone `-`": first, last and between other costs, and in a whole column
barred_columns : Sheet
barred_columns =
    record {
      alphabet = bytes "ab";
      text = bytes "a";
      columns =
          (4294967295 ∷ (1 ∷ (4294967295 ∷ [])))
          ∷ ((5 ∷ (4294967295 ∷ (0 ∷ []))) ∷ ((4294967295 ∷ (4294967295 ∷ (4294967295 ∷ []))) ∷ []));
    }

barred_sheet : sheet_of (bytes "ab\na\n- 1 -\n5 - 0\n- - -\n") ≡ some barred_columns
unfolding barred_columns sheet_of sheet_from laid flatten column_of cost_of numeral_of closed every both pieces onto provided
barred_sheet = refl

-- no column line: the width is K + 1; both lines may be empty
no_column : Sheet
no_column = record { alphabet = bytes "ab"; text = bytes "aa"; columns = [] }

no_column_sheet : sheet_of (bytes "ab\naa\n") ≡ some no_column
unfolding no_column sheet_of sheet_from laid flatten column_of cost_of numeral_of closed every both pieces onto provided
no_column_sheet = refl

no_column_matrix : matrix_of no_column ≡ matrix [] 3 0
unfolding no_column flatten
no_column_matrix = refl

empty_lines : sheet_of (bytes "\n\n") ≡ some (record { alphabet = []; text = []; columns = [] })
unfolding sheet_of sheet_from laid flatten column_of cost_of numeral_of closed every both pieces onto provided
empty_lines = refl

-- texts that are costs
costs :
    map (λ s. cost_of (bytes s)) ("0" ∷ ("7" ∷ ("10" ∷ ("1000000" ∷ ("9999999" ∷ ("-" ∷ []))))))
    ≡ some 0 ∷ (some 7 ∷ (some 10 ∷ (some 1000000 ∷ (some 9999999 ∷ (some 4294967295 ∷ [])))))
unfolding cost_of numeral_of provided
costs = refl

-- texts that are no cost, and texts that are no sheet
is_none : {A : Type 0} → Option A → Bool
is_none none = true
is_none (some a) = false

no_costs : all (λ s. is_none (cost_of (bytes s)))
    (""
    ∷ "00"
    ∷ "01"
    ∷ "0000001"
    ∷ "10000000"
    ∷ "4294967295"
    ∷ "-0"
    ∷ "--"
    ∷ "-5"
    ∷ "5-"
    ∷ "+"
    ∷ "1a"
    ∷ "+1"
    ∷ [])
    ≡ true
unfolding cost_of numeral_of provided is_none
no_costs = refl

-- of the texts of one byte the digits and `-` are costs, and no others
one_byte : keep (λ b. not (is_none (cost_of (b ∷ [])))) (numbers 0 256) ≡ bytes "-0123456789"
unfolding keep numbers cost_of numeral_of provided is_none
one_byte = refl

no_sheets : all (λ s. is_none (sheet_of (bytes s)))
    (""
    ∷ "ab"
    ∷ "ab\n"
    ∷ "ab\naa"
    ∷ "ab\naa\n5 1 9"
    ∷ "ab\naa\n\n"
    ∷ "ab\naa\n5 1 9\n\n"
    ∷ "ab\naa\n5 1 9\n5 1\n"
    ∷ "ab\naa\n5 1\n5 1 9\n"
    ∷ "ab\naa\n5  1\n"
    ∷ "ab\naa\n 5 1\n"
    ∷ "ab\naa\n5 1 \n"
    ∷ "ab\naa\n5 01\n"
    ∷ "ab\naa\n5\t1\n"
    ∷ "ab\naa\n5 -  1\n"
    ∷ "ab\naa\n5 1 -"
    ∷ "ab\naa\n5 -- 1\n"
    ∷ "ab\naa\n5 -0 1\n"
    ∷ "ab\naa\n5 1 4294967295\n"
    ∷ "ab\r\naa\r\n5 1 9\r\n"
    ∷ [])
    ≡ true
unfolding is_none sheet_of sheet_from laid flatten column_of cost_of numeral_of closed every both pieces onto provided
no_sheets = refl
