-- What a call reports: 0 or the refusal's number, the price and the lengths, which are 0 at a refusal.
use Rattle.std.specs.Prelude.{ℕ}
use Rattle.refusal.specs.declared.Refusal.{Refusal}
use Rattle.refusal.specs.Number.{number_of}

-- `filled` is the length of the list that the call is for (Compile: the form's words; Decode and Read: the word), `form` that of the form
-- that Read also writes
pub record Report : Type 0 where
  pub number : ℕ
  pub price : ℕ
  pub filled : ℕ
  pub form : ℕ

-- a refusal's report
abbrev pub turned_away : Refusal → Report
turned_away n = record { number = number_of n; price = 0; filled = 0; form = 0 }
