-- What Judge reports, by its answer and by the verdict on a form and a word.
use Rattle.std.specs.Prelude.{ℕ, Bool, false, Result, Ok, Err}
use Rattle.refusal.specs.declared.Refusal.{Refusal}
use Rattle.refusal.specs.Number.{number_of}
use Rattle.refusal.specs.Verdict.{Verdict, passed, refused}

-- 0 or the refusal's number, and whether the word was accepted (false at a refusal)
pub record Judgement : Type 0 where
  pub number : ℕ
  pub accepted : Bool

abbrev pub reported : Result Bool Refusal → Judgement
reported (Ok b) = record { number = 0; accepted = b }
reported (Err n) = record { number = number_of n; accepted = false }

abbrev pub report : Verdict Bool → Judgement
report (passed b) = record { number = 0; accepted = b }
report (refused n) = record { number = number_of n; accepted = false }
