-- What Decode and Read answer past their checks (demand 3), for any set of words.
use Rattle.std.specs.Prelude.{ℕ, ◌≡◌, List, [], length, drop}
use Rattle.std.proofs.Math.Option.{Option, some, none}
use Rattle.lists.specs.Memory.{written}
use Rattle.refusal.specs.declared.Refusal.TheVariants.{NoReading}
use Rattle.refusal.specs.Report.{Report, turned_away}
use Rattle.answers.specs.Decoded.{read}
use Rattle.ctc.specs.Collapse.{collapse}
use Rattle.automaton.specs.Automaton.{Accepts}
use Rattle.automaton.specs.Form.{view, letters_of}
use Rattle.matrix.specs.Matrix.{Matrix, price}
use Rattle.outcome.specs.Outcome.{Outcome}
use Rattle.decode_checks.specs.Checks.{needed}
use Rattle.decode_valid.specs.Lent.{Lent}

-- What is reported of an outcome, and what is written to path and word memory.

abbrev pub outcome_report : (form : ℕ) → Matrix → Option (List ℕ) → Report
outcome_report k M none = turned_away NoReading
outcome_report k M (some p) = read (price M p) (length (collapse p)) k

abbrev pub path_of : Option (List ℕ) → List ℕ
path_of none = []
path_of (some p) = p

abbrev pub word_of : (spelt : List ℕ → List ℕ) → Option (List ℕ) → List ℕ
word_of spelt none = []
word_of spelt (some p) = spelt (collapse p)

-- a word as labels
abbrev pub labels : List ℕ → List ℕ
labels w = w

-- Past the checks: the outcome for this set of words is reported, and its path and word are written, the word as `spelt` gives it. The work
-- words that are not needed are as they were.
pub record Answers (Word : List ℕ → Type 0) (spelt : List ℕ → List ℕ) (form : ℕ) (M : Matrix) (need : ℕ) (before after : Lent) (answer : Report) : Type 0 where
  pub outcome : Option (List ℕ)
  pub is : Outcome Word M outcome
  pub answered : answer ≡ outcome_report form M outcome
  pub path : after.path ≡ written (path_of outcome) before.path
  pub word : after.word ≡ written (word_of spelt outcome) before.word
  pub work : drop need after.work ≡ drop need before.work
  pub size : length after.work ≡ length before.work

-- what Decode answers past its checks
abbrev pub DecodeAnswers : (form : List ℕ) (M : Matrix) (before after : Lent) (answer : Report) → Type 0
DecodeAnswers f M = Answers (Accepts (view f)) labels 0 M (needed M.count (letters_of f))
