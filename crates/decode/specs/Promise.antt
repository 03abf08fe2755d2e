-- What Decode promises (demand 3, for every valid form): the first refusal that applies, or the answer past the checks.
use Rattle.std.specs.Prelude.{List, ℕ}
use Rattle.refusal.specs.Verdict.{first_refusal}
use Rattle.refusal.specs.Checks.{Checks}
use Rattle.refusal.specs.Report.{Report, turned_away}
use Rattle.matrix.specs.Matrix.{Matrix}
use Rattle.decode_checks.specs.Checks.{decode_checks}
use Rattle.decode_valid.specs.Answers.{DecodeAnswers}
use Rattle.decode_valid.specs.Lent.{Lent, rooms}

-- Decode's promise
abbrev pub Decodes : (form : List ℕ) (M : Matrix) (before after : Lent) (answer : Report) → Type 0
Decodes f M before after answer =
    Checks turned_away (first_refusal (decode_checks f M (rooms before))) (DecodeAnswers f M) before after answer
