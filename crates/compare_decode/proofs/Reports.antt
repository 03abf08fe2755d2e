-- What Compare reports by two answers of Decode.
use Rattle.std.specs.Prelude.{ℕ, ◌≡◌, refl, cond, ◌&&◌, List, eqb, pos, ◌-ℤ◌}
use Rattle.std.proofs.Math.Option.{Option, some, none}
use Rattle.refusal.specs.declared.Refusal.TheVariants.{NoReading}
use Rattle.refusal.specs.Report.{Report}
use Rattle.matrix.specs.Matrix.{Matrix}
use Rattle.decode_valid.specs.Answers.{outcome_report}
use Rattle.comparison.specs.Comparison.{Comparison, compared, turned_away}
use Rattle.comparison.specs.Promise.{difference_report}

-- what is reported by two answers of Decode: the first price less the second where both read, else 'no reading'
abbrev pub decoded_report : (first second : Report) → Comparison
decoded_report a b = cond (eqb a.number 0 && eqb b.number 0) (compared (pos a.price -ℤ pos b.price)) (turned_away NoReading)

pub outcomes_report : (M : Matrix) (a b : Option (List ℕ)) → difference_report M a b ≡ decoded_report (outcome_report 0 M a) (outcome_report 0 M b)
outcomes_report M none none = refl
outcomes_report M none (some q) = refl
outcomes_report M (some p) none = refl
outcomes_report M (some p) (some q) = refl
