-- What Decode's answer reports.
use Rattle.std.specs.Prelude.{ℕ, Result, Ok, Err}
use Rattle.refusal.specs.declared.Refusal.{Refusal}
use Rattle.refusal.specs.Report.{Report, turned_away}
use Rattle.answers.specs.declared.Decoded.{Decoded}

-- the price, the length of the word, and that of the form where one was compiled
abbrev pub read : (price length form : ℕ) → Report
read p n k = record { number = 0; price = p; filled = n; form = k }

-- what Decode's answer reports
abbrev pub reported : Result Decoded Refusal → Report
reported (Ok d) = read d.price d.length 0
reported (Err n) = turned_away n
