-- What a call that fills one list reports and promises.
use Rattle.std.specs.Prelude.{ℕ, ◌≡◌, List, [], length, Result, Ok, Err}
use Rattle.lists.specs.Memory.{written}
use Rattle.refusal.specs.declared.Refusal.{Refusal}
use Rattle.refusal.specs.Verdict.{Verdict, passed, refused}
use Rattle.refusal.specs.Report.{Report, turned_away}

-- the report of a call that filled n elements
abbrev pub counted : ℕ → Report
counted n = record { number = 0; price = 0; filled = n; form = 0 }

abbrev pub reported : Result ℕ Refusal → Report
reported (Ok n) = counted n
reported (Err n) = turned_away n

module _ {A : Type 0} where
  abbrev pub report : Verdict (List A) → Report
  report (passed w) = counted (length w)
  report (refused n) = turned_away n

  -- what the call writes
  abbrev pub filling : Verdict (List A) → List A
  filling (passed w) = w
  filling (refused n) = []

  -- The promise of a call that fills one list: its report, and the lent memory, which begins with what the verdict gives and is
  -- unchanged after that.
  pub record Fills (verdict : Verdict (List A)) (answer : Report) (before after : List A) : Type 0 where
    pub answered : answer ≡ report verdict
    pub memory : after ≡ written (filling verdict) before
