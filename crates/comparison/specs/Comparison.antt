-- What Compare reports.
use Rattle.std.specs.Prelude.{ℕ, ℤ, pos, Result, Ok, Err}
use Rattle.refusal.specs.declared.Refusal.{Refusal}
use Rattle.refusal.specs.Number.{number_of}

-- 0 or the refusal's number, and the difference, a signed number that is 0 at a refusal
pub record Comparison : Type 0 where
  pub number : ℕ
  pub difference : ℤ

abbrev pub compared : ℤ → Comparison
compared d = record { number = 0; difference = d }

abbrev pub turned_away : Refusal → Comparison
turned_away n = record { number = number_of n; difference = pos 0 }

-- what Compare's answer reports
abbrev pub reported : Result ℤ Refusal → Comparison
reported (Ok d) = compared d
reported (Err n) = turned_away n
