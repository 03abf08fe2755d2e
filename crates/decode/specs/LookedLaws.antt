-- A call of Decode that read the line, or said that there is no reading: its checks passed.
use Rattle.std.specs.Prelude.{ℕ, ◌<◌, ◌≡◌, refl, true, false, not, ◌⊎◌, List, Result, Ok, Err}
use Rattle.std.proofs.Common.{ap, ⊎_elim, arith}
use Rattle.std.proofs.lemmas.Bool.{not-false}
use Rattle.refusal.specs.declared.Refusal.{Refusal}
use Rattle.refusal.specs.declared.Refusal.TheVariants.{BadForm}
use Rattle.refusal.specs.Number.{number_of}
use Rattle.refusal.specs.Verdict.{first_refusal}
use Rattle.refusal.proofs.VerdictLaws.{first_of, first_passed}
use Rattle.refusal.specs.Checks.{Checks}
use Rattle.refusal.specs.Report.{Report, turned_away}
use Rattle.automaton.specs.Form.{valid_form, letters_of, alphabet_of}
use Rattle.matrix.specs.Matrix.{Matrix}
use Rattle.decode_checks.specs.Checks.{matrix_checks, decode_checks}
use Rattle.decode_checks.specs.Passing.{Fits}
use Rattle.decode_checks.proofs.PassingLaws.{fits}
use Rattle.decode_valid.specs.Answers.{DecodeAnswers}
use Rattle.decode_valid.specs.Lent.{Lent, rooms}
use Rattle.decode.specs.Promise.{Decodes}

-- Decode read the line, or said that there is no reading
abbrev pub Looked : Report → Type 0
Looked a = (a.number ≡ 0) ⊎ (a.number ≡ 16)

module _ (f : List ℕ) (M : Matrix) (before after : Lent) (answer : Report) (decodes : Decodes f M before after answer) (looked : Looked answer) where
  abbrev Between : Refusal → Type 0
  Between n = (0 < number_of n) × (number_of n < 16)

  pub looked_passes : first_refusal (decode_checks f M (rooms before)) ≡ Ok tt
  looked_passes = by (first_refusal (decode_checks f M (rooms before))) refl decodes
    where
      by :
          (c : Result (Unit {0}) Refusal) → first_refusal (decode_checks f M (rooms before)) ≡ c → Checks turned_away c (DecodeAnswers f M) before after answer
          → first_refusal (decode_checks f M (rooms before)) ≡ Ok tt
      by (Ok _) e h = e
      by (Err n) e h =
          let between : Between n =
          first_of Between (decode_checks f M (rooms before))
          ((omega arith, omega arith), ((omega arith, omega arith), ((omega arith, omega arith), ((omega arith, omega arith), ((omega arith, omega arith), tt))))) n e in
          let told : answer.number ≡ number_of n = ap (λ (r : Report). r.number) h.0 in
          let low = between.0 in
          let high = between.1 in
          absurd (⊎_elim (λ z. omega arith) (λ z. omega arith) looked)

  pub looked_answers : DecodeAnswers f M before after answer
  looked_answers = rw looked_passes at decodes

  parts : (not (valid_form f) ≡ false) × (first_refusal (matrix_checks (alphabet_of f) (letters_of f) M (rooms before)) ≡ Ok tt)
  parts = first_passed (not (valid_form f)) BadForm (matrix_checks (alphabet_of f) (letters_of f) M (rooms before)) looked_passes

  pub looked_valid : valid_form f ≡ true
  looked_valid = not-false (valid_form f) parts.0

  pub looked_fits : Fits (alphabet_of f) (letters_of f) M (rooms before)
  looked_fits = fits (alphabet_of f) (letters_of f) M (rooms before) parts.1
