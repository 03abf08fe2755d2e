-- What Read answers by a compiled form: a refusal of the checks, or the outcome.
use Rattle.std.specs.Prelude.{ℕ, List, length}
use Rattle.refusal.specs.Verdict.{first_refusal}
use Rattle.refusal.specs.Checks.{Checks}
use Rattle.refusal.specs.Report.{Report, turned_away}
use Rattle.automaton.specs.Form.{letters_of}
use Rattle.matrix.specs.Matrix.{Matrix}
use Rattle.decode_checks.specs.Checks.{matrix_checks}
use Rattle.decode_valid.specs.Lent.{Lent, rooms}
use Rattle.read_valid.specs.Accepted.{ReadsAccepted}

-- Past Compile, with the form f: refusals 12 to 15, or the outcome for the words that the form accepts.
abbrev pub ChecksForm : (A f : List ℕ) (M : Matrix) (before after : Lent) (answer : Report) → Type 0
ChecksForm A f M before after answer =
    Checks turned_away (first_refusal (matrix_checks (length A) (letters_of f) M (rooms before))) (ReadsAccepted A f M) before after answer
