-- Demands 1 and 3 for Compare, as theorems on what it promises; past the checks it promises what they ask and nothing else.
-- For the reader: nothing uses it.
use Rattle.std.specs.Prelude.{ℕ, ◌+◌, ◌≡◌, ◌↔◌, List, length, pos, ◌-ℤ◌, Ok, Err}
use Rattle.std.proofs.Common.{ap, ap₂, ◌∙◌, inl, inr, ⊎_elim, arith}
use Rattle.std.proofs.Math.Option.{Option, some, none}
use Rattle.lists.specs.Stored.{Outside}
use Rattle.refusal.specs.declared.Refusal.{Refusal}
use Rattle.refusal.specs.Verdict.{first_refusal}
use Rattle.automaton.specs.Automaton.{Accepts}
use Rattle.automaton.specs.Form.{view, alphabet_of}
use Rattle.automaton.proofs.ValidLaws.{view_proper}
use Rattle.matrix.specs.Matrix.{Matrix, price}
use Rattle.matrix.specs.Paths.{CostsPass}
use Rattle.outcome.specs.Outcome.{Rival, Outcome}
use Rattle.outcome.specs.Plain.{PlainRival, NoRival}
use Rattle.outcome.proofs.OutcomeLaws.{plain_exactly}
use Rattle.trellis.proofs.OutcomeLaws.{outcome_exists}
use Rattle.comparison.specs.Comparison.{Comparison, compared, turned_away}
use Rattle.comparison.specs.Checks.{larger_need, compare_checks}
use Rattle.comparison.specs.Passing.{FitsBoth}
use Rattle.comparison.proofs.PassingLaws.{fits_both_exactly}
use Rattle.comparison.specs.Promise.{difference_report, CompareAnswers, Compares}
use Rattle.comparison.specs.Demand.{Cheapest, OneWithout, DifferenceOrNone}

-- An outcome in the words of demand 3, where the matrix has the form's width and its costs pass.
module _ (f : List ℕ) (M : Matrix) (wide : M.width ≡ alphabet_of f + 1) (pass : CostsPass M) where
  plain : (p : List ℕ) → PlainRival (Accepts (view f)) (alphabet_of f) M p ↔ Rival (Accepts (view f)) M p
  plain p = plain_exactly (Accepts (view f)) (alphabet_of f) M wide p pass

  cheapest : (p : List ℕ) → Outcome (Accepts (view f)) M (some p) → Cheapest f M p
  cheapest p o = record { rival = (plain p).1 o.qualifies; cheapest = λ q r. o.least q ((plain q).0 r) }

  no_rival : Outcome (Accepts (view f)) M none → NoRival (Accepts (view f)) (alphabet_of f) M
  no_rival o p r = o p ((plain p).0 r)

  same_price : {p q : List ℕ} → Cheapest f M p → Cheapest f M q → price M p ≡ price M q
  same_price {p} {q} a b = let l = a.cheapest q b.rival in let h = b.cheapest p a.rival in omega arith

-- Past the checks an answer is what the demands ask and nothing else.
module _ (f g : List ℕ) (M : Matrix) (before after : List ℕ) (answer : Comparison) (fits : FitsBoth f g M (length before)) where
  demanded : CompareAnswers f g M before after answer → DifferenceOrNone f g M answer
  demanded h = by h.first h.first_is h.second h.second_is h.answered
    where
      by :
          (a : Option (List ℕ)) → Outcome (Accepts (view f)) M a → (b : Option (List ℕ)) → Outcome (Accepts (view g)) M b
          → answer ≡ difference_report M a b → DifferenceOrNone f g M answer
      by none o b u e = inr (inl (no_rival f M fits.wide_first fits.pass o), e)
      by (some p) o none u e = inr (inr (no_rival g M fits.wide_second fits.pass u), e)
      by (some p) o (some q) u e =
          inl
          (record {
            first = p;
            first_is = cheapest f M fits.wide_first fits.pass p o;
            second = q;
            second_is = cheapest g M fits.wide_second fits.pass q u;
            reported = e;
          })

  enough : DifferenceOrNone f g M answer → Outside 0 (larger_need f g M) before after → CompareAnswers f g M before after answer
  enough d kept =
      let one = outcome_exists (view_proper f fits.first) M in
      let two = outcome_exists (view_proper g fits.second) M in
      record { first = one.0; first_is = one.1; second = two.0; second_is = two.1; answered = by d one.0 one.1 two.0 two.1; work = kept }
    where
      first_cheapest : (p : List ℕ) → Outcome (Accepts (view f)) M (some p) → Cheapest f M p
      first_cheapest = cheapest f M fits.wide_first fits.pass

      second_cheapest : (q : List ℕ) → Outcome (Accepts (view g)) M (some q) → Cheapest g M q
      second_cheapest = cheapest g M fits.wide_second fits.pass

      by :
          DifferenceOrNone f g M answer → (a : Option (List ℕ)) → Outcome (Accepts (view f)) M a → (b : Option (List ℕ)) → Outcome (Accepts (view g)) M b
          → answer ≡ difference_report M a b
      by (inl t) none o b u = absurd (no_rival f M fits.wide_first fits.pass o t.first t.first_is.rival)
      by (inl t) (some p) o none u = absurd (no_rival g M fits.wide_second fits.pass u t.second t.second_is.rival)
      by (inl t) (some p) o (some q) u =
          t.reported
          ∙ ap₂ (λ m n. compared (pos m -ℤ pos n)) (same_price f M fits.wide_first fits.pass t.first_is (first_cheapest p o))
          (same_price g M fits.wide_second fits.pass t.second_is (second_cheapest q u))
      by (inr n) none o b u = n.1
      by (inr n) (some p) o none u = n.1
      by (inr n) (some p) o (some q) u = absurd (⊎_elim (λ h. h p (first_cheapest p o).rival) (λ h. h q (second_cheapest q u).rival) n.0)

  pub answers_as_demanded :
      CompareAnswers f g M before after answer ↔ (DifferenceOrNone f g M answer × Outside 0 (larger_need f g M) before after)
  answers_as_demanded = (λ h. (demanded h, h.work), λ d. enough d.0 d.1)

none_exactly : {f g : List ℕ} {M : Matrix} {answer : Comparison} → DifferenceOrNone f g M answer → (answer.number ≡ 16) ↔ OneWithout f g M
none_exactly {f} {g} {M} {answer} (inl t) =
    let e : answer.number ≡ 0 = ap (λ (c : Comparison). c.number) t.reported in
    (λ h. absurd (omega arith), ⊎_elim (λ n. absurd (n t.first t.first_is.rival)) (λ n. absurd (n t.second t.second_is.rival)))
none_exactly (inr n) = (λ h. n.0, λ h. ap (λ (c : Comparison). c.number) n.1)

reads_both :
    {f g : List ℕ} {M : Matrix} {answer : Comparison} → DifferenceOrNone f g M answer → (OneWithout f g M → ⊥) → answer.number ≡ 0
reads_both (inl t) h = ap (λ (c : Comparison). c.number) t.reported
reads_both (inr n) h = absurd (h n.0)

module _ (f g : List ℕ) (M : Matrix) (before after : List ℕ) (answer : Comparison) (compares : Compares f g M before after answer) where
  -- Demand 1: what is turned away gets its refusal's number and a difference of 0, and the work memory is as it was.
  pub demand_1_refusal :
      (n : Refusal) → first_refusal (compare_checks f g M (length before)) ≡ Err n → (answer ≡ turned_away n) × (after ≡ before)
  demand_1_refusal n e = rw e at compares

  module _ (passes : first_refusal (compare_checks f g M (length before)) ≡ Ok tt) where
    answers : CompareAnswers f g M before after answer
    answers = rw passes at compares

    fits : FitsBoth f g M (length before)
    fits = (fits_both_exactly f g M (length before)).0 passes

    -- Demand 1 past the checks: memory after the work words that the larger form needs is as it was.
    pub demand_1_memory : Outside 0 (larger_need f g M) before after
    demand_1_memory = answers.work

    -- Demand 3: the price of the first form's cheapest rival less that of the second's, or 'no reading'.
    pub demand_3 : DifferenceOrNone f g M answer
    demand_3 = ((answers_as_demanded f g M before after answer fits).0 answers).0

    -- 'no reading' exactly when there is no rival for one of the forms
    pub demand_3_none : (answer.number ≡ 16) ↔ OneWithout f g M
    demand_3_none = none_exactly demand_3

    -- where each form has a rival, the number is 0
    pub demand_3_reads :
        (p q : List ℕ) → PlainRival (Accepts (view f)) (alphabet_of f) M p → PlainRival (Accepts (view g)) (alphabet_of g) M q → answer.number ≡ 0
    demand_3_reads p q one two = reads_both demand_3 (⊎_elim (λ n. n p one) (λ n. n q two))
