-- "Two forms over one matrix are decoded, and the answer is the first price less the second" (document 02, T-04): what Compare has to do
-- with two calls of Decode, as a theorem on what they promise.
-- For the reader: nothing uses it.
use Rattle.std.specs.Prelude.{ℕ, ◌<◌, ◌≤◌, max, ◌≡◌, refl, false, not, ◌⊎◌, List, length, Result, Ok, Err}
use Rattle.std.proofs.Common.{sym, ap, ap₂, ◌∙◌, inl, inr, ⊎_elim, arith}
use Rattle.std.proofs.lemmas.Bool.{not-false}
use Rattle.lists.proofs.OrderLaws.{lt_or_le}
use Rattle.refusal.specs.declared.Refusal.{Refusal}
use Rattle.refusal.specs.declared.Refusal.TheVariants.{BadForm}
use Rattle.refusal.specs.Number.{number_of}
use Rattle.refusal.specs.Verdict.{first_refusal}
use Rattle.refusal.proofs.VerdictLaws.{first_of, first_passed}
use Rattle.refusal.specs.Checks.{Checks}
use Rattle.refusal.specs.Report.{Report, turned_away as away}
use Rattle.automaton.specs.Automaton.{Accepts}
use Rattle.automaton.specs.Form.{valid_form, letters_of, alphabet_of, view}
use Rattle.matrix.specs.Matrix.{Matrix}
use Rattle.outcome.proofs.OutcomeLaws.{outcome_unique}
use Rattle.decode_checks.specs.Checks.{needed, matrix_checks, decode_checks}
use Rattle.decode_checks.specs.Passing.{Fits}
use Rattle.decode_checks.proofs.PassingLaws.{fits}
use Rattle.decode_valid.specs.Answers.{DecodeAnswers}
use Rattle.decode_valid.specs.Lent.{Lent, rooms}
use Rattle.decode.specs.Promise.{Decodes}
use Rattle.comparison.specs.Comparison.{Comparison}
use Rattle.comparison.specs.Checks.{larger_need, compare_checks}
use Rattle.comparison.proofs.PassingLaws.{fits_both_exactly}
use Rattle.comparison.specs.Promise.{difference_report, CompareAnswers, Compares}
use Rattle.compare_decode.proofs.Reports.{decoded_report, outcomes_report}

-- Decode read the line, or said that there is no reading
abbrev pub Looked : Report → Type 0
Looked a = (a.number ≡ 0) ⊎ (a.number ≡ 16)

-- A call of Decode that did: its checks passed.
module _ (f : List ℕ) (M : Matrix) (before after : Lent) (answer : Report) (decodes : Decodes f M before after answer) (looked : Looked answer) where
  abbrev Between : Refusal → Type 0
  Between n = (0 < number_of n) × (number_of n < 16)

  passes : first_refusal (decode_checks f M (rooms before)) ≡ Ok tt
  passes = by (first_refusal (decode_checks f M (rooms before))) refl decodes
    where
      by :
          (c : Result (Unit {0}) Refusal) → first_refusal (decode_checks f M (rooms before)) ≡ c → Checks away c (DecodeAnswers f M) before after answer
          → first_refusal (decode_checks f M (rooms before)) ≡ Ok tt
      by (Ok _) e h = e
      by (Err n) e h =
          let between : Between n =
          first_of Between (decode_checks f M (rooms before))
          ((omega arith, omega arith), ((omega arith, omega arith), ((omega arith, omega arith), ((omega arith, omega arith), ((omega arith, omega arith), tt))))) n e in
          let told : answer.number ≡ number_of n = ap (λ (r : Report). r.number) h.0 in
          let low = between.0 in
          let high = between.1 in
          absurd (⊎_elim (λ z. omega arith) (λ z. omega arith) looked)

  answers : DecodeAnswers f M before after answer
  answers = rw passes at decodes

  checks : (not (valid_form f) ≡ false) × (first_refusal (matrix_checks (alphabet_of f) (letters_of f) M (rooms before)) ≡ Ok tt)
  checks = first_passed (not (valid_form f)) BadForm (matrix_checks (alphabet_of f) (letters_of f) M (rooms before)) passes

  fit : Fits (alphabet_of f) (letters_of f) M (rooms before)
  fit = fits (alphabet_of f) (letters_of f) M (rooms before) checks.1

-- work memory that is enough for each form is enough for the larger one
larger_fits : (f g : List ℕ) (M : Matrix) (room : ℕ) → needed M.count (letters_of f) ≤ room → needed M.count (letters_of g) ≤ room → larger_need f g M ≤ room
larger_fits f g M room h k = by (lt_or_le (letters_of f) (letters_of g))
  where
    by : (letters_of f < letters_of g) ⊎ (letters_of g ≤ letters_of f) → larger_need f g M ≤ room
    by (inl l) = let e : max (letters_of f) (letters_of g) ≡ letters_of g = omega arith in rw e k
    by (inr l) = let e : max (letters_of f) (letters_of g) ≡ letters_of f = omega arith in rw e h

module _ (f g : List ℕ) (M : Matrix) (lent₁ lent₁' lent₂ lent₂' : Lent) (one two : Report) (before after : List ℕ) (answer : Comparison) where
  -- Decode looked with each form, and Compare has as many work words as each call had
  pub decoded_difference :
      Decodes f M lent₁ lent₁' one → Looked one → Decodes g M lent₂ lent₂' two → Looked two → length lent₁.work ≤ length before
      → length lent₂.work ≤ length before → Compares f g M before after answer → answer ≡ decoded_report one two
  decoded_difference decodes₁ looked₁ decodes₂ looked₂ room₁ room₂ compares =
      let a = answers f M lent₁ lent₁' one decodes₁ looked₁ in
      let b = answers g M lent₂ lent₂' two decodes₂ looked₂ in
      let fit₁ = fit f M lent₁ lent₁' one decodes₁ looked₁ in
      let fit₂ = fit g M lent₂ lent₂' two decodes₂ looked₂ in
      let need₁ = fit₁.work in
      let need₂ = fit₂.work in
      let passes : first_refusal (compare_checks f g M (length before)) ≡ Ok tt =
      (fits_both_exactly f g M (length before)).1
      (record {
        first = not-false (valid_form f) (checks f M lent₁ lent₁' one decodes₁ looked₁).0;
        second = not-false (valid_form g) (checks g M lent₂ lent₂' two decodes₂ looked₂).0;
        few = fit₁.few;
        wide_first = fit₁.wide;
        wide_second = fit₂.wide;
        full = fit₁.full;
        pass = fit₁.pass;
        work = larger_fits f g M (length before) (omega arith) (omega arith);
      }) in
      let c : CompareAnswers f g M before after answer = rw passes at compares in
      c.answered
      ∙ ap₂ (difference_report M) (outcome_unique M (Accepts (view f)) c.first a.outcome c.first_is a.is)
      (outcome_unique M (Accepts (view g)) c.second b.outcome c.second_is b.is)
      ∙ outcomes_report M a.outcome b.outcome
      ∙ sym (ap₂ decoded_report a.answered b.answered)
