-- The three demands, as theorems on what Read promises; demands 1 and 3 are stated by the same definitions as Decode's. Past the checks
-- with memory enough means: no refusal except 16 applies, so Compile gives a form and the checks of the matrix and the memory pass.
-- The set of words is over characters, rivals are lists of labels (document 02, T-07): a list of labels counts as a word if its characters
-- spell one (`SpellsWord`, regex/Characters).
-- For the reader: nothing uses it.
use Rattle.std.specs.Prelude.{ℕ, ◌<◌, ◌≡◌, ◌↔◌, List, length, Ok, Err}
use Rattle.std.proofs.Common.{ap, ◌∙◌}
use Rattle.std.proofs.lemmas.List.{length-map}
use Rattle.lists.specs.Each.{Each}
use Rattle.lists.proofs.WrittenLaws.{written_none}
use Rattle.lists.specs.Memory.{written}
use Rattle.refusal.specs.declared.Refusal.{Refusal}
use Rattle.refusal.specs.Verdict.{passed, refused, first_refusal}
use Rattle.refusal.specs.Report.{Report, turned_away}
use Rattle.refusal.specs.Fills.{filling}
use Rattle.ctc.specs.Spread.{spread, Shortest}
use Rattle.ctc.proofs.SpreadLaws.{spread_is_shortest}
use Rattle.alphabet.specs.Labels.{characters}
use Rattle.automaton.specs.Automaton.{Accepts}
use Rattle.automaton.specs.Form.{view, letters_of}
use Rattle.matrix.specs.Matrix.{Matrix}
use Rattle.regex_tree.specs.Grammar.{WordsOf}
use Rattle.regex_tree.specs.Characters.{CharacterWordsOf, SpellsWord}
use Rattle.compile.specs.Call.{compile_call}
use Rattle.compile.proofs.Meaning.{compiled_means, compiled_spells, compiled_spelt}
use Rattle.compile.specs.Means.{Means}
use Rattle.outcome.specs.Plain.{PlainRival, NoRival}
use Rattle.decode_checks.specs.Checks.{needed, matrix_checks}
use Rattle.decode_valid.specs.Answers.{Answers}
use Rattle.decode_valid.proofs.AnswersLaws.{answers_same}
use Rattle.decode_valid.specs.Lent.{Lent, rooms}
use Rattle.decode_valid.specs.Demand.{BestOrNone}
use Rattle.decode_valid.specs.Kept.{Kept}
use Rattle.decode_valid.proofs.DemandLaws.{answers_as_demanded, none_exactly, rival_reads}
use Rattle.read_text.specs.Promise.{Reads}
use Rattle.read_text.specs.SpeltLaws.{outcome_spelt}

module _ (A s : List ℕ) (M : Matrix) (form form' : List ℕ) (before after : Lent) (answer : Report) (reads : Reads A s M form form' before after answer) where
  -- Demand 1: what is turned away gets its refusal's number and zeros, and memory is as document 01 says for that refusal.

  pub demand_1_text : (n : Refusal) → compile_call A s (length form) ≡ refused n → (answer ≡ turned_away n) × (after ≡ before) × (form' ≡ form)
  demand_1_text n e =
      let h = rw e at reads.reads in
      (h.0, h.1, reads.memory ∙ ap (λ v. written (filling v) form) e ∙ written_none form)

  module _ (f : List ℕ) (compiles : compile_call A s (length form) ≡ passed f) where
    compiled : form' ≡ written f form
    compiled = reads.memory ∙ ap (λ v. written (filling v) form) compiles

    pub demand_1_matrix :
        (n : Refusal) → first_refusal (matrix_checks (length A) (letters_of f) M (rooms before)) ≡ Err n
        → (answer ≡ turned_away n) × (after ≡ before) × (form' ≡ written f form)
    demand_1_matrix n e =
        let h = rw e at (rw compiles at reads.reads) in
        (h.0, h.1, compiled)

    -- Demand 2: the form means the text. It accepts a list of labels exactly if their characters spell a word of the text, and the words of the
    -- text are what it accepts, spelt.
    pub demand_2 : Means A s f
    demand_2 = compiled_means A s (length form) f compiles

    pub demand_2_accepts : (w : List ℕ) → Accepts (view f) w ↔ SpellsWord A s w
    demand_2_accepts = compiled_spells A s (length form) f compiles

    pub demand_2_words : (v : List ℕ) → CharacterWordsOf A s v ↔ ((w : List ℕ) × Accepts (view f) w × (characters A w ≡ v))
    demand_2_words = compiled_spelt A s (length form) f compiles

    module _ (passes : first_refusal (matrix_checks (length A) (letters_of f) M (rooms before)) ≡ Ok tt) where
      -- Past the checks Read promises what demands 1 and 3 ask, and nothing else.
      pub demanded_exactly :
          Answers (WordsOf A s) (characters A) (length f) M (needed M.count (letters_of f)) before after answer
          ↔ (BestOrNone (SpellsWord A s) (characters A) (length A) (length f) M before after answer
          × Kept (needed M.count (letters_of f)) M before after answer)
      demanded_exactly =
          let exactly = answers_as_demanded (length A) (letters_of f) passes (λ w. length-map w _) in (
            λ a. exactly.0 (answers_same (WordsOf A s) (SpellsWord A s) (λ o. (outcome_spelt A s M o).0) a),
            λ d. answers_same (SpellsWord A s) (WordsOf A s) (λ o. (outcome_spelt A s M o).1) (exactly.1 d),
          )

      demanded :
          BestOrNone (SpellsWord A s) (characters A) (length A) (length f) M before after answer
          × Kept (needed M.count (letters_of f)) M before after answer
      demanded = demanded_exactly.0 (rw passes at (rw compiles at reads.reads))

      -- Demand 1 past the checks: the form is in its memory; other memory after what is counted, and after the work words that are needed,
      -- is as it was.
      pub demand_1_memory : (form' ≡ written f form) × Kept (needed M.count (letters_of f)) M before after answer
      demand_1_memory = (compiled, demanded.1)

      -- Demand 3: the cheapest rival, the first by labels among equals, with its word as characters; or 'no reading'. A rival is a list of
      -- labels, and the characters of its collapse spell a word.
      pub demand_3 : BestOrNone (SpellsWord A s) (characters A) (length A) (length f) M before after answer
      demand_3 = demanded.0

      -- 'no reading' exactly when there is no rival; where there is one, the number is 0
      pub demand_3_none : (answer.number ≡ 16) ↔ NoRival (SpellsWord A s) (length A) M
      demand_3_none = none_exactly demand_3

      pub demand_3_reads : (q : List ℕ) → PlainRival (SpellsWord A s) (length A) M q → answer.number ≡ 0
      demand_3_reads = rival_reads demand_3

-- Demand 2, for spread: it is a shortest path that collapses to the word.
pub demand_2_spread : (w : List ℕ) → Each (λ x. 0 < x) w → Shortest w (spread w)
demand_2_spread = spread_is_shortest
