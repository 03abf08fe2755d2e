-- What the sheet program prints for an alphabet, a text and a matrix (document 01, "Confidences and the sheet program" and "What is turned
-- away"): "the lowest number", and past the checks the best reading, or 16 if there is none. Of memory only lengths occur.
use Rattle.std.specs.Prelude.{ℕ, ◌≡◌, List, length, Result, Ok, Err}
use Rattle.refusal.specs.declared.Refusal.{Refusal}
use Rattle.std.proofs.Math.Option.{Option, some, none}
use Rattle.refusal.specs.declared.Refusal.TheVariants as refusal
use Rattle.refusal.specs.Number.{number_of}
use Rattle.refusal.specs.Verdict.{Verdict, passed, refused, first_refusal}
use Rattle.ctc.specs.Collapse.{collapse}
use Rattle.automaton.specs.Form.{letters_of}
use Rattle.matrix.specs.Matrix.{Matrix, price}
use Rattle.outcome.specs.Outcome.{Outcome}
use Rattle.regex_tree.specs.Grammar.{WordsOf}
use Rattle.compile.specs.Call.{compile_call}
use Rattle.decode_checks.specs.Checks.{Rooms, matrix_checks}
use Rattle.alphabet.specs.Labels.{characters}
use Rattle.sheet_lines.specs.Lines.{reading_lines, refusal_line}

-- "It lends 16,384 words each of form and work, and 255 bytes each for path and word."
abbrev pub form_room : ℕ
form_room = 16384

abbrev pub lent_rooms : Rooms
lent_rooms = record { path = 255; word = 255; work = 16384 }

-- output memory of this many bytes is enough
abbrev pub longest : ℕ
longest = 1031

-- the lines of an outcome
abbrev pub outcome_lines : (A : List ℕ) (M : Matrix) → Option (List ℕ) → List ℕ
outcome_lines A M none = refusal_line (number_of refusal.NoReading)
outcome_lines A M (some p) = reading_lines (price M p) (characters A (collapse p)) p

-- past the checks: the outcome for the words of the text
pub record PrintsOutcome (A s : List ℕ) (M : Matrix) (output : List ℕ) : Type 0 where
  pub outcome : Option (List ℕ)
  pub is : Outcome (WordsOf A s) M outcome
  pub lines : output ≡ outcome_lines A M outcome

-- refusals 12 to 15
abbrev pub PrintsChecked : Result (Unit {0}) Refusal → (A s : List ℕ) (M : Matrix) (output : List ℕ) → Type 0
PrintsChecked (Err n) A s M output = output ≡ refusal_line (number_of n)
PrintsChecked (Ok _) A s M output = PrintsOutcome A s M output

-- refusals 1 to 10 and 19
abbrev pub PrintsCompiled : Verdict (List ℕ) → (A s : List ℕ) (M : Matrix) (output : List ℕ) → Type 0
PrintsCompiled (refused n) A s M output = output ≡ refusal_line (number_of n)
PrintsCompiled (passed f) A s M output = PrintsChecked (first_refusal (matrix_checks (length A) (letters_of f) M lent_rooms)) A s M output

-- for an alphabet, a text and a matrix
abbrev pub PrintsReading : (A s : List ℕ) (M : Matrix) (output : List ℕ) → Type 0
PrintsReading A s M output = PrintsCompiled (compile_call A s form_room) A s M output
