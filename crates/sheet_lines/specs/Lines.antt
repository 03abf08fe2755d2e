-- What the sheet program prints (document 01, "Output in full"), as bytes.
use Rattle.std.specs.Prelude.{ℕ, List, [], ◌∷◌, ◌++◌}
use Rattle.text.specs.Bytes.{bytes}
use Rattle.sheet_decimal.specs.Numerals.{decimal}
use Rattle.sheet_path.specs.Labels.{spaced}

-- a line, which ends in a newline
abbrev pub line : List ℕ → List ℕ
line b = b ++ (10 ∷ [])

-- a reading: price, word and path, a line each
abbrev pub reading_lines : (price : ℕ) (word path : List ℕ) → List ℕ
reading_lines price word path = line (decimal price) ++ (line word ++ line (spaced path))

-- a refusal, by its number
abbrev pub refusal_line : ℕ → List ℕ
refusal_line n = bytes "refused " ++ line (decimal n)
