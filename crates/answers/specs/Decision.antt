-- What Preview reports: by their answer, and by the verdict on their input.
use Rattle.std.specs.Prelude.{ℕ, Bool, false, Result, Ok, Err}
use Rattle.refusal.specs.declared.Refusal.{Refusal}
use Rattle.refusal.specs.Number.{number_of}
use Rattle.refusal.specs.Verdict.{Verdict, passed, refused}

-- 0 or the refusal's number, and whether the answer is yes (false at a refusal)
pub record Decision : Type 0 where
  pub number : ℕ
  pub yes : Bool

abbrev pub decided : Bool → Decision
decided b = record { number = 0; yes = b }

abbrev pub turned_away : Refusal → Decision
turned_away n = record { number = number_of n; yes = false }

abbrev pub reported : Result Bool Refusal → Decision
reported (Ok b) = decided b
reported (Err n) = turned_away n

abbrev pub report : Verdict Bool → Decision
report (passed b) = decided b
report (refused n) = turned_away n
