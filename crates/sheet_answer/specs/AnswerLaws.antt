-- For one input there is one output.
use Rattle.std.specs.Prelude.{ℕ, ◌≡◌, List}
use Rattle.std.proofs.Common.{sym, ◌∙◌}
use Rattle.std.proofs.Math.Option.{Option, some, none}
use Rattle.compile.specs.Call.{compile_call}
use Rattle.sheet_format.specs.Sheet.{Sheet, sheet_of, matrix_of}
use Rattle.sheet_read.specs.Answer.{form_room}
use Rattle.sheet_read.proofs.AnswerLaws.{compiled_same}
use Rattle.sheet_answer.specs.Answer.{PrintsSheet, Prints}

sheet_same : (o : Option Sheet) (a b : List ℕ) → PrintsSheet o a → PrintsSheet o b → a ≡ b
sheet_same none a b h g = h ∙ sym g
sheet_same (some S) a b h g =
    compiled_same S.alphabet S.text (matrix_of S) a b (compile_call S.alphabet S.text form_room) h g

pub prints_unique : (input a b : List ℕ) → Prints input a → Prints input b → a ≡ b
prints_unique input a b h g = sheet_same (sheet_of input) a b h g
