-- Laws: exchanging the forms changes the answer's sign and no refusal (document 02, T-04), whatever the two answers are that meet the
-- promise; a form compared with itself differs by 0.
use Rattle.std.specs.Prelude.{ℕ, zero, suc, max, ◌≡◌, refl, not, List, length, ℤ, pos, negsuc, neg_ℤ, ◌+ℤ◌, ◌-ℤ◌, Result, Ok, Err}
use Rattle.std.proofs.Common.{sym, ap, ap₂, subst, ◌∙◌, arith}
use Rattle.std.proofs.Math.Bool.{or_comm}
use Rattle.std.proofs.Math.Option.{Option, some, none}
use Rattle.std.proofs.Math.IntN.{neg_ℤ-neg_ℤ, neg_ℤ-+ℤ, +ℤ_comm, pos-ne-negsuc}
use Rattle.refusal.specs.declared.Refusal.{Refusal}
use Rattle.refusal.specs.Verdict.{first_refusal}
use Rattle.refusal.specs.Checks.{Checks}
use Rattle.automaton.specs.Automaton.{Accepts}
use Rattle.automaton.specs.Form.{valid_form, letters_of, alphabet_of, view}
use Rattle.matrix.specs.Matrix.{Matrix, price}
use Rattle.outcome.proofs.OutcomeLaws.{outcome_unique}
use Rattle.decode_checks.specs.Checks.{needed, matrix_fault}
use Rattle.comparison.specs.Comparison.{Comparison, compared, turned_away}
use Rattle.comparison.specs.Checks.{larger_need, compare_checks}
use Rattle.comparison.specs.Promise.{difference_report, CompareAnswers, Compares}

-- the same number, and the difference with the other sign
abbrev pub exchanged : Comparison → Comparison
exchanged c = record { number = c.number; difference = neg_ℤ c.difference }

minus_exchanged : (a b : ℤ) → b -ℤ a ≡ neg_ℤ (a -ℤ b)
minus_exchanged a b = +ℤ_comm b (neg_ℤ a) ∙ ap (λ z. neg_ℤ a +ℤ z) (sym (neg_ℤ-neg_ℤ b)) ∙ sym (neg_ℤ-+ℤ a (neg_ℤ b))

report_exchanged : (M : Matrix) (a b : Option (List ℕ)) → difference_report M b a ≡ exchanged (difference_report M a b)
report_exchanged M none none = refl
report_exchanged M none (some q) = refl
report_exchanged M (some p) none = refl
report_exchanged M (some p) (some q) = ap compared (minus_exchanged (pos (price M p)) (pos (price M q)))

module _ (f g : List ℕ) (M : Matrix) where
  pub need_exchanged : larger_need f g M ≡ larger_need g f M
  need_exchanged = let e : max (letters_of f) (letters_of g) ≡ max (letters_of g) (letters_of f) = omega arith in ap (needed M.count) e

  checks_exchanged : (room : ℕ) → compare_checks f g M room ≡ compare_checks g f M room
  checks_exchanged room =
      rw (or_comm (not (valid_form f)) (not (valid_form g)), or_comm (matrix_fault (alphabet_of f) M) (matrix_fault (alphabet_of g) M), need_exchanged)

  by_checks :
      (c : Result (Unit {0}) Refusal) (before after before' after' : List ℕ) (one two : Comparison) → Checks turned_away c (CompareAnswers f g M) before after one
      → Checks turned_away c (CompareAnswers g f M) before' after' two → two ≡ exchanged one
  by_checks (Err n) before after before' after' one two h k = k.0 ∙ sym (ap exchanged h.0)
  by_checks (Ok _) before after before' after' one two h k =
      let a = outcome_unique M (Accepts (view f)) k.second h.first k.second_is h.first_is in
      let b = outcome_unique M (Accepts (view g)) k.first h.second k.first_is h.second_is in
      k.answered ∙ ap₂ (difference_report M) b a ∙ report_exchanged M h.first h.second ∙ sym (ap exchanged h.answered)

  -- the forms exchanged, with work memory of the same length
  pub exchange :
      (before after before' after' : List ℕ) (one two : Comparison) → length before ≡ length before' → Compares f g M before after one
      → Compares g f M before' after' two → two ≡ exchanged one
  exchange before after before' after' one two e h k =
      by_checks (first_refusal (compare_checks f g M (length before))) before after before' after' one two h
      (subst (λ c. Checks turned_away c (CompareAnswers g f M) before' after' two)
      (ap first_refusal (sym (checks_exchanged (length before'))) ∙ ap (λ n. first_refusal (compare_checks f g M n)) (sym e)) k)

opposite_zero : (z : ℤ) → z ≡ neg_ℤ z → z ≡ pos 0
opposite_zero (pos zero) e = refl
opposite_zero (pos (suc n)) e = absurd (pos-ne-negsuc (suc n) n e)
opposite_zero (negsuc n) e = absurd (pos-ne-negsuc (suc n) n (sym e))

-- a form and itself
pub same_form : (f : List ℕ) (M : Matrix) (before after : List ℕ) (answer : Comparison) → Compares f f M before after answer → answer.difference ≡ pos 0
same_form f M before after answer h = opposite_zero answer.difference (ap (λ (c : Comparison). c.difference) (exchange f f M before after before after answer answer refl h h))
