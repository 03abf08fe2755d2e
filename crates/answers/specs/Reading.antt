-- What Read's answer reports.
use Rattle.std.specs.Prelude.{Result, Ok, Err}
use Rattle.refusal.specs.declared.Refusal.{Refusal}
use Rattle.refusal.specs.Report.{Report, turned_away}
use Rattle.answers.specs.Decoded.{read}
use Rattle.answers.specs.declared.Reading.{Reading}

-- what Read's answer reports
abbrev pub reported : Result Reading Refusal → Report
reported (Ok r) = read r.price r.length r.form
reported (Err n) = turned_away n
