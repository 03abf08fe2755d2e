-- What Read answers past its checks, stated by the words that the form accepts.
use Rattle.std.specs.Prelude.{ℕ, List, length}
use Rattle.refusal.specs.Report.{Report}
use Rattle.automaton.specs.Automaton.{Accepts}
use Rattle.automaton.specs.Form.{view, letters_of}
use Rattle.matrix.specs.Matrix.{Matrix}
use Rattle.decode_checks.specs.Checks.{needed}
use Rattle.decode_valid.specs.Answers.{Answers}
use Rattle.decode_valid.specs.Lent.{Lent}
use Rattle.alphabet.specs.Labels.{characters}

-- the outcome for the words that the form accepts, with the word written as characters
abbrev pub ReadsAccepted : (A f : List ℕ) (M : Matrix) (before after : Lent) (answer : Report) → Type 0
ReadsAccepted A f M = Answers (Accepts (view f)) (characters A) (length f) M (needed M.count (letters_of f))
