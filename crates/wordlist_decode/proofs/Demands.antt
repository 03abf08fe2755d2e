-- "Decode reads with it under the same rivals' comparison" (document 02, T-05): demands 1 to 3 as theorems on what Decode promises for a form
-- that CompileList wrote, with the listed words in the place of an expression's.
-- For the reader: nothing uses it, except the example.
use Rattle.std.specs.Prelude.{ℕ, ◌≡◌, refl, not, ◌↔◌, List, length, Ok}
use Rattle.std.proofs.Common.{ap, ap₂, subst, ◌∙◌}
use Rattle.std.proofs.Math.Option.{Option}
use Rattle.refusal.specs.declared.Refusal.TheVariants.{BadForm}
use Rattle.refusal.specs.Verdict.{passed, first_refusal}
use Rattle.refusal.proofs.VerdictLaws.{first_fails}
use Rattle.refusal.specs.Report.{Report}
use Rattle.automaton.specs.Automaton.{Accepts}
use Rattle.automaton.specs.Form.{valid_form, view, letters_of, alphabet_of}
use Rattle.matrix.specs.Matrix.{Matrix}
use Rattle.outcome.specs.Outcome.{Outcome}
use Rattle.outcome.proofs.OutcomeLaws.{outcome_same}
use Rattle.outcome.specs.Plain.{PlainRival, NoRival}
use Rattle.decode_checks.specs.Checks.{Rooms, needed, matrix_checks, decode_checks}
use Rattle.decode_valid.specs.Answers.{labels, DecodeAnswers}
use Rattle.decode_valid.proofs.AnswersLaws.{answers_same}
use Rattle.decode_valid.specs.Lent.{Lent, rooms}
use Rattle.decode_valid.specs.Demand.{BestOrNone}
use Rattle.decode_valid.specs.Kept.{Kept}
use Rattle.decode_valid.proofs.DemandLaws.{answers_as_demanded, none_exactly, rival_reads}
use Rattle.decode.specs.Promise.{Decodes}
use Rattle.wordlist.specs.Words.{words}
use Rattle.wordlist.specs.PrefixTree.{letters_in}
use Rattle.wordlist.specs.Listed.{Listed}
use Rattle.compile_list.specs.Call.{compile_list_call}
use Rattle.compile_list.specs.Means.{ListMeans}
use Rattle.compile_list.proofs.Meaning.{list_means}

module _ (A s : List ℕ) (room : ℕ) (f : List ℕ) (compiles : compile_list_call A s room ≡ passed f) where
  means : ListMeans A s f
  means = list_means A s room f compiles

  -- the best path whose collapse the form accepts is the best one whose collapse is listed
  pub listed_outcome : (M : Matrix) (o : Option (List ℕ)) → Outcome (Accepts (view f)) M o ↔ Outcome (Listed A (words s)) M o
  listed_outcome M o = (
    outcome_same M (Accepts (view f)) (Listed A (words s)) (λ w. (means.accepts w).0) (λ w. (means.accepts w).1) o,
    outcome_same M (Listed A (words s)) (Accepts (view f)) (λ w. (means.accepts w).1) (λ w. (means.accepts w).0) o,
  )

  -- Demand 1: the form is never turned away, and the other checks go by the alphabet and the list's letters.
  pub list_checks_matrix :
      (M : Matrix) (r : Rooms) → first_refusal (decode_checks f M r) ≡ first_refusal (matrix_checks (length A) (length (letters_in A (words s))) M r)
  list_checks_matrix M r =
      first_fails (not (valid_form f)) BadForm (matrix_checks (alphabet_of f) (letters_of f) M r) (ap not means.valid)
      ∙ ap₂ (λ k l. first_refusal (matrix_checks k l M r)) means.alphabet means.letters

  module _ (M : Matrix) (before after : Lent) (answer : Report) (decodes : Decodes f M before after answer) where
    abbrev letters : ℕ
    letters = length (letters_in A (words s))

    module _ (passes : first_refusal (matrix_checks (length A) letters M (rooms before)) ≡ Ok tt) where
      -- past the checks Decode answers by the listed words
      demanded : BestOrNone (Listed A (words s)) labels (length A) 0 M before after answer × Kept (needed M.count letters) M before after answer
      demanded =
          let answers : DecodeAnswers f M before after answer = rw (list_checks_matrix M (rooms before) ∙ passes) at decodes in
          let d = (answers_as_demanded (length A) letters passes (λ w. refl)).0 (answers_same (Accepts (view f)) (Listed A (words s)) (λ o. (listed_outcome M o).0) answers) in
          (d.0, subst (λ l. Kept (needed M.count l) M before after answer) means.letters d.1)

      -- Demand 1 past the checks: memory after what is counted, and after the work words that are needed, is as it was.
      pub list_demand_1_memory : Kept (needed M.count letters) M before after answer
      list_demand_1_memory = demanded.1

      -- Demand 3: the cheapest rival, the first by labels among equals; or 'no reading'. A rival is a list of labels, and the characters of its
      -- collapse are a listed word.
      pub list_demand_3 : BestOrNone (Listed A (words s)) labels (length A) 0 M before after answer
      list_demand_3 = demanded.0

      -- 'no reading' exactly when there is no rival; where there is one, the number is 0
      pub list_demand_3_none : (answer.number ≡ 16) ↔ NoRival (Listed A (words s)) (length A) M
      list_demand_3_none = none_exactly list_demand_3

      pub list_demand_3_reads : (q : List ℕ) → PlainRival (Listed A (words s)) (length A) M q → answer.number ≡ 0
      list_demand_3_reads = rival_reads list_demand_3
