-- Law: the difference is from -255,000,000 to 255,000,000, since each price is that of at most 255 costs of at most 1,000,000.
use Rattle.std.specs.Prelude.{ℕ, ◌≤◌, ◌≡◌, refl, List, length, nat_abs, Result, Ok, Err}
use Rattle.std.proofs.Math.Option.{Option, some, none}
use Rattle.std.proofs.Common.{arith}
use Rattle.comparison.proofs.SignedLaws.{difference_bound}
use Rattle.refusal.specs.declared.Refusal.{Refusal}
use Rattle.refusal.specs.Verdict.{first_refusal}
use Rattle.refusal.specs.Checks.{Checks}
use Rattle.automaton.specs.Automaton.{Accepts}
use Rattle.automaton.specs.Form.{view}
use Rattle.matrix.specs.Matrix.{Matrix, price}
use Rattle.matrix.proofs.PathsLaws.{path_price}
use Rattle.outcome.specs.Outcome.{Rival, Outcome}
use Rattle.comparison.specs.Comparison.{Comparison, turned_away}
use Rattle.comparison.specs.Checks.{compare_checks}
use Rattle.comparison.proofs.PassingLaws.{fits_both_exactly}
use Rattle.comparison.specs.Promise.{difference_report, CompareAnswers, Compares}

module _ (M : Matrix) (few : M.count ≤ 255) where
  price_bound : (Word : List ℕ → Type 0) (p : List ℕ) → Rival Word M p → price M p ≤ 255000000
  price_bound Word p r = let e = r.path.one_each in let l = path_price M 0 p r.path.labels in omega arith

  report_bound :
      (One Two : List ℕ → Type 0) (a b : Option (List ℕ)) → Outcome One M a → Outcome Two M b → nat_abs (difference_report M a b).difference ≤ 255000000
  report_bound One Two none b h k = omega arith
  report_bound One Two (some p) none h k = omega arith
  report_bound One Two (some p) (some q) h k =
      difference_bound (price M p) (price M q) 255000000 (price_bound One p h.qualifies) (price_bound Two q k.qualifies)

module _ (f g : List ℕ) (M : Matrix) (before after : List ℕ) (answer : Comparison) where
  pub comparison_bound : Compares f g M before after answer → nat_abs answer.difference ≤ 255000000
  comparison_bound h = by (first_refusal (compare_checks f g M (length before))) refl h
    where
      by :
          (c : Result (Unit {0}) Refusal) → first_refusal (compare_checks f g M (length before)) ≡ c → Checks turned_away c (CompareAnswers f g M) before after answer
          → nat_abs answer.difference ≤ 255000000
      by (Err n) e k = rw k.0 (omega arith)
      by (Ok _) e k =
          let few = ((fits_both_exactly f g M (length before)).0 e).few in
          rw k.answered (report_bound M few (Accepts (view f)) (Accepts (view g)) k.first k.second k.first_is k.second_is)
