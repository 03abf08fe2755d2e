-- What the sheet program prints for the bytes of its input (document 01, "Confidences and the sheet program" and "What is turned away"):
-- "18 comes first; else the lowest number". It does not mention memory.
use Rattle.std.specs.Prelude.{ℕ, ◌≡◌, List}
use Rattle.std.proofs.Math.Option.{Option, some, none}
use Rattle.refusal.specs.declared.Refusal.TheVariants as refusal
use Rattle.refusal.specs.Number.{number_of}
use Rattle.sheet_format.specs.Sheet.{Sheet, sheet_of, matrix_of}
use Rattle.sheet_lines.specs.Lines.{refusal_line}
use Rattle.sheet_read.specs.Answer.{PrintsReading}

-- refusal 18
abbrev pub PrintsSheet : Option Sheet → (output : List ℕ) → Type 0
PrintsSheet none output = output ≡ refusal_line (number_of refusal.Sheet)
PrintsSheet (some S) output = PrintsReading S.alphabet S.text (matrix_of S) output

abbrev pub Prints : (input output : List ℕ) → Type 0
Prints input output = PrintsSheet (sheet_of input) output
