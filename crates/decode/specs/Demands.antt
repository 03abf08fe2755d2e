-- Demands 1 and 3, as theorems on what Decode promises, stated by the same definitions as Read's; here a word is what the form accepts.
-- Past the checks with memory enough means: no refusal except 16 applies, so the form is valid and the checks of the matrix and the
-- memory pass.
-- For the reader: nothing uses it.
use Rattle.std.specs.Prelude.{ℕ, ◌≡◌, refl, not, ◌↔◌, List, Ok, Err}
use Rattle.refusal.specs.declared.Refusal.{Refusal}
use Rattle.refusal.specs.declared.Refusal.TheVariants.{BadForm}
use Rattle.refusal.specs.Verdict.{first_refusal}
use Rattle.refusal.proofs.VerdictLaws.{first_passed}
use Rattle.refusal.specs.Report.{Report, turned_away}
use Rattle.automaton.specs.Automaton.{Accepts}
use Rattle.automaton.specs.Form.{valid_form, view, letters_of, alphabet_of}
use Rattle.matrix.specs.Matrix.{Matrix}
use Rattle.outcome.specs.Plain.{PlainRival, NoRival}
use Rattle.decode_checks.specs.Checks.{needed, matrix_checks, decode_checks}
use Rattle.decode_valid.specs.Answers.{labels, DecodeAnswers}
use Rattle.decode_valid.specs.Lent.{Lent, rooms}
use Rattle.decode_valid.specs.Demand.{BestOrNone}
use Rattle.decode_valid.specs.Kept.{Kept}
use Rattle.decode_valid.proofs.DemandLaws.{answers_as_demanded, none_exactly, rival_reads}
use Rattle.decode.specs.Promise.{Decodes}

module _ (f : List ℕ) (M : Matrix) (before after : Lent) (answer : Report) (decodes : Decodes f M before after answer) where
  -- Demand 1: what is turned away gets its refusal's number and zeros, and all memory is as it was.
  pub demand_1_refusal : (n : Refusal) → first_refusal (decode_checks f M (rooms before)) ≡ Err n → (answer ≡ turned_away n) × (after ≡ before)
  demand_1_refusal n e = rw e at decodes

  module _ (passes : first_refusal (decode_checks f M (rooms before)) ≡ Ok tt) where
    demanded :
        BestOrNone (Accepts (view f)) labels (alphabet_of f) 0 M before after answer × Kept (needed M.count (letters_of f)) M before after answer
    demanded =
        let answers : DecodeAnswers f M before after answer = rw passes at decodes in
        let checks = first_passed (not (valid_form f)) BadForm (matrix_checks (alphabet_of f) (letters_of f) M (rooms before)) passes in
        (answers_as_demanded (alphabet_of f) (letters_of f) checks.1 (λ w. refl)).0 answers

    -- Demand 1 past the checks: memory after what is counted, and after the work words that are needed, is as it was.
    pub demand_1_memory : Kept (needed M.count (letters_of f)) M before after answer
    demand_1_memory = demanded.1

    -- Demand 3: the cheapest rival, the first by labels among equals, with its word as labels; or 'no reading'.
    pub demand_3 : BestOrNone (Accepts (view f)) labels (alphabet_of f) 0 M before after answer
    demand_3 = demanded.0

    -- 'no reading' exactly when there is no rival; where there is one, the number is 0
    pub demand_3_none : (answer.number ≡ 16) ↔ NoRival (Accepts (view f)) (alphabet_of f) M
    demand_3_none = none_exactly demand_3

    pub demand_3_reads : (q : List ℕ) → PlainRival (Accepts (view f)) (alphabet_of f) M q → answer.number ≡ 0
    demand_3_reads = rival_reads demand_3
