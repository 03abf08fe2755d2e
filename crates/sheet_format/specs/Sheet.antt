-- The layout of a sheet (document 01, "Confidences and the sheet program"): "alphabet line, expression line, then one line for each
-- column, numbers of 1 to 7 digits with no extra leading zero, one space between"; a lone `-` in the place of a number is the cost of a
-- barred label (document 02, T-06). What is no sheet is refusal 18.
use Rattle.std.proofs.Math.Option.{Option, some, none}
use mathlib.Core.List.{List, [], ◌∷◌, flatten}
use Rattle.std.specs.Prelude.{Bool, true, false, cond, not, ◌&&◌, ℕ, ◌+◌, length, eqb, leb}
use Prim.Native.Char.{code}
use Rattle.lists.specs.Lists.{same_list}
use Rattle.lists.specs.Each.{all}
use Rattle.lists.specs.Cases.{provided}
use Rattle.text.specs.Digits.{digits, value}
use Rattle.text_lines.specs.Lines.{pieces, both, lines_of}
use Rattle.matrix.specs.Matrix.{Matrix, BARRED, matrix}

-- what each element gives, if each gives something
unfoldable pub every : {A B : Type 0} → (A → Option B) → List A → Option (List B)
every f [] = some []
every f (x ∷ xs) = both (f x) (every f xs)

-- a 0 before another digit
abbrev pub extra_zero : List ℕ → Bool
extra_zero [] = false
extra_zero (a ∷ []) = false
extra_zero (a ∷ (b ∷ s)) = eqb a (code "0")

-- the number that a text is, if it is one
unfoldable pub numeral_of : List ℕ → Option ℕ
numeral_of s = provided (digits s && leb 1 (length s) && leb (length s) 7 && not (extra_zero s)) (some (value 0 s))

-- the cost that a text is, if it is one: a lone `-`, or a number
unfoldable pub cost_of : List ℕ → Option ℕ
cost_of s = cond (same_list s (code "-" ∷ [])) (some BARRED) (numeral_of s)

-- the costs of a column line
unfoldable pub column_of : List ℕ → Option (List ℕ)
column_of line = every cost_of (pieces (code " ") line)

pub record Sheet : Type 0 where
  pub alphabet : List ℕ
  pub text : List ℕ
  pub columns : List (List ℕ)

-- each column has as many costs as the first
abbrev pub equal_columns : List (List ℕ) → Bool
equal_columns [] = true
equal_columns (c ∷ cs) = all (λ d. eqb (length d) (length c)) cs

-- equally long, and not more than 16,384 costs
abbrev pub fitting : List (List ℕ) → Bool
fitting cs = equal_columns cs && leb (length (flatten cs)) 16384

-- a sheet of two lines and columns, if the columns fit
unfoldable pub laid : List ℕ → List ℕ → Option (List (List ℕ)) → Option Sheet
laid a t none = none
laid a t (some cs) = provided (fitting cs) (some (record { alphabet = a; text = t; columns = cs }))

-- the alphabet line, the expression line and the column lines: "There may be no column line".
unfoldable pub sheet_from : Option (List (List ℕ)) → Option Sheet
sheet_from none = none
sheet_from (some []) = none
sheet_from (some (a ∷ [])) = none
sheet_from (some (a ∷ (t ∷ ls))) = laid a t (every column_of ls)

-- the most bytes that a sheet may have
abbrev pub most_bytes : ℕ
most_bytes = 65535

-- Refusal 18: "not this layout, no final newline, columns unequal, over 65,535 bytes or 16,384 costs".
unfoldable pub sheet_of : List ℕ → Option Sheet
sheet_of input = provided (leb (length input) most_bytes) (sheet_from (lines_of input))

-- without a column line "the column width then counts as K + 1"
abbrev pub width_or : ℕ → List (List ℕ) → ℕ
width_or other [] = other
width_or other (c ∷ cs) = length c

-- the columns one after another
abbrev pub matrix_of : Sheet → Matrix
matrix_of S = matrix (flatten S.columns) (width_or (length S.alphabet + 1) S.columns) (length S.columns)
