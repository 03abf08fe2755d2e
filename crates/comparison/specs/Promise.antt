-- What Compare promises (document 02, T-04), by the outcome for each form: the first refusal that applies, or the first price less the
-- second.
use Rattle.std.specs.Prelude.{ℕ, ◌≡◌, List, length, pos, ◌-ℤ◌}
use Rattle.std.proofs.Math.Option.{Option, some, none}
use Rattle.lists.specs.Stored.{Outside}
use Rattle.refusal.specs.declared.Refusal.TheVariants.{NoReading}
use Rattle.refusal.specs.Verdict.{first_refusal}
use Rattle.refusal.specs.Checks.{Checks}
use Rattle.automaton.specs.Automaton.{Accepts}
use Rattle.automaton.specs.Form.{view}
use Rattle.matrix.specs.Matrix.{Matrix, price}
use Rattle.outcome.specs.Outcome.{Outcome}
use Rattle.comparison.specs.Comparison.{Comparison, compared, turned_away}
use Rattle.comparison.specs.Checks.{larger_need, compare_checks}

-- what is reported of two outcomes: the first price less the second, or 'no reading' where one of them is none
abbrev pub difference_report : Matrix → (first second : Option (List ℕ)) → Comparison
difference_report M none second = turned_away NoReading
difference_report M (some p) none = turned_away NoReading
difference_report M (some p) (some q) = compared (pos (price M p) -ℤ pos (price M q))

-- Past the checks: the outcomes for the words of the two forms, and the difference of their prices. The work words after those that the
-- larger form needs are as they were.
pub record CompareAnswers (f g : List ℕ) (M : Matrix) (before after : List ℕ) (answer : Comparison) : Type 0 where
  pub first : Option (List ℕ)
  pub first_is : Outcome (Accepts (view f)) M first
  pub second : Option (List ℕ)
  pub second_is : Outcome (Accepts (view g)) M second
  pub answered : answer ≡ difference_report M first second
  pub work : Outside 0 (larger_need f g M) before after

-- Compare's promise; `before` and `after` are the work memory
abbrev pub Compares : (f g : List ℕ) (M : Matrix) (before after : List ℕ) (answer : Comparison) → Type 0
Compares f g M before after answer =
    Checks turned_away (first_refusal (compare_checks f g M (length before))) (CompareAnswers f g M) before after answer
