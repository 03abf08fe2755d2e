-- What the exported calls hand back, and what lent memory holds then: a list filled, a refusal, and `ab*` with Judge, Decode, Read and
-- Compare.
use Rattle.std.specs.Prelude.{ℕ, ◌≡◌, refl, List, [], ◌∷◌, drop, replicate, ℤ, pos, negsuc}
use Rattle.std.proofs.Common.{ap, ap₂, ◌∙◌}
use Rattle.std.proofs.Math.Option.{some}
use Rattle.lists.specs.Lists.{any, numbers}
use Rattle.lists.specs.Each.{all}
use Rattle.lists.specs.Memory.{written}
use Rattle.refusal.specs.declared.Refusal.TheVariants.{OutputMemory}
use Rattle.refusal.specs.Verdict.{passed, refused, unless, if_passed, first_refusal}
use Rattle.refusal.specs.Fills.{filling}
use Rattle.ctc.specs.Collapse.{merge, without_blanks, collapse}
use Rattle.automaton.specs.Automaton.{Accepts}
use Rattle.automaton.specs.Form.{ordered, valid_form, view, follow_of, ends_of}
use Rattle.automaton.proofs.ValidLaws.{view_proper}
use Rattle.automaton.specs.Accepted.{spells, accepts}
use Rattle.automaton.proofs.AcceptedLaws.{accepts_decides}
use Rattle.matrix.specs.Matrix.{Matrix, matrix}
use Rattle.outcome.specs.Outcome.{Outcome}
use Rattle.outcome.proofs.OutcomeLaws.{outcome_same, outcome_unique}
use Rattle.outcome.proofs.ChoiceLaws.{not_after, preferred, better}
use Rattle.outcome.proofs.Exhaustive.{over, exhaustive, usable, decided, decided_outcome}
use Rattle.text.specs.Bytes.{bytes}
use Rattle.regex_tree.specs.Grammar.{WordsOf}
use Rattle.compile.specs.Call.{compile_call}
use Rattle.compile.proofs.Meaning.{compiled_means}
use Rattle.decode_valid.specs.Answers.{outcome_report, path_of, word_of, labels}
use Rattle.decode_valid.specs.Lent.{Lent}
use Rattle.alphabet.specs.Labels.{characters}
use Rattle.judge.specs.Judge.{judged}
use Rattle.read.proofs.Cases.{cases, cases_stated}
use Rattle.comparison.specs.Comparison.{Comparison}
use Rattle.comparison.specs.Promise.{difference_report}
use Rattle.kavurehy.specs.Handed.{FillsCounted, FillsPlain, Judges, DecodesCounted, ReadsCounted, ComparesHanded}

-- "A refusal gives zero price and lengths and leaves all memory alone"; "On success, memory beyond the counted bytes or words is untouched
-- too."
record Filled : Type 0 where
  counted :
      (after handed : List ℕ) (result : ℕ) → FillsCounted (passed (5 ∷ 6 ∷ [])) (1 ∷ 2 ∷ 3 ∷ []) after handed result
      → (result ≡ 0) × (handed ≡ 2 ∷ []) × (after ≡ 5 ∷ 6 ∷ 3 ∷ [])
  counted_refused :
      (before after handed : List ℕ) (result : ℕ) → FillsCounted (refused OutputMemory) before after handed result
      → (result ≡ 14) × (handed ≡ 0 ∷ []) × (after ≡ before)
  plain :
      (after : List ℕ) (result : ℕ) → FillsPlain (passed (5 ∷ 6 ∷ [])) (1 ∷ 2 ∷ 3 ∷ []) after result → (result ≡ 0) × (after ≡ 5 ∷ 6 ∷ 3 ∷ [])
  plain_refused : (before after : List ℕ) (result : ℕ) → FillsPlain (refused OutputMemory) before after result → (result ≡ 14) × (after ≡ before)

filled : Filled
unfolding written
filled = record {
  counted = λ after handed result h. (h.hands.number, h.hands.list, h.memory);
  counted_refused = λ before after handed result h. (h.hands.number, h.hands.list, h.memory);
  plain = λ after result h. (h.number, h.memory);
  plain_refused = λ before after result h. (h.number, h.memory);
}

-- "`ab*` compiles to", and the columns (5,1,9)(5,1,9)(5,9,2): path 1 1 2, price 4
abbrev form : List ℕ
form = 0x10020002 ∷ 0x20000301 ∷ 0x20000202 ∷ 0x30000102 ∷ 0x30000202 ∷ []

abbrev three : Matrix
three = matrix (5 ∷ 1 ∷ 9 ∷ 5 ∷ 1 ∷ 9 ∷ 5 ∷ 9 ∷ 2 ∷ []) 3 3

-- memory for one label more than the path has, and for one work word more than the 20 that are needed: all of it 7
abbrev lent : Lent
lent = record { path = replicate 4 7; word = replicate 4 7; work = replicate 21 7 }

-- 1 for the word ab, 0 for b; the empty list is no form
judges :
    ((handed : List ℕ) (result : ℕ) → Judges form (1 ∷ 2 ∷ []) handed result → (result ≡ 0) × (handed ≡ 1 ∷ []))
    × ((handed : List ℕ) (result : ℕ) → Judges form (2 ∷ []) handed result → (result ≡ 0) × (handed ≡ 0 ∷ []))
    × ((handed : List ℕ) (result : ℕ) → Judges [] (1 ∷ []) handed result → (result ≡ 11) × (handed ≡ 0 ∷ []))
unfolding judged unless valid_form ordered spells numbers follow_of ends_of
judges = (λ handed result h. (h.number, h.accepted), λ handed result h. (h.number, h.accepted), λ handed result h. (h.number, h.accepted))

accepted : Outcome (Accepts (view form)) three (some (1 ∷ 1 ∷ 2 ∷ []))
unfolding decided exhaustive over better preferred not_after usable collapse merge without_blanks spells numbers follow_of ends_of valid_form ordered
accepted =
    let d = accepts_decides (view form) 2 (view_proper form refl) in
    decided_outcome three (Accepts (view form)) (accepts (view form)) (λ w. (d w).0) (λ w. (d w).1)

-- Decode: price and length of the word, the path and its word as labels; the last work word is untouched
decodes :
    (after : Lent) (handed : List ℕ) (result : ℕ) → DecodesCounted form three lent after handed result
    → (result ≡ 0)
    × (handed ≡ 4 ∷ 2 ∷ [])
    × (after.path ≡ 1 ∷ 1 ∷ 2 ∷ 7 ∷ [])
    × (after.word ≡ 1 ∷ 2 ∷ 7 ∷ 7 ∷ [])
    × (drop 20 after.work ≡ 7 ∷ [])
unfolding first_refusal valid_form ordered written collapse merge without_blanks
decodes after handed result h =
    let a = h.decodes in
    let same = outcome_unique three (Accepts (view form)) a.outcome (some (1 ∷ 1 ∷ 2 ∷ [])) a.is accepted in
    let told = a.answered ∙ ap (outcome_report 0 three) same in (
      h.hands.number ∙ ap (λ r. r.number) told,
      h.hands.list ∙ ap (λ r. r.price ∷ r.filled ∷ []) told,
      a.path ∙ ap (λ o. written (path_of o) lent.path) same,
      a.word ∙ ap (λ o. written (word_of labels o) lent.word) same,
      a.work,
    )

-- a list that is no form: 11, zeros, and memory as it was
decodes_none :
    (M : Matrix) (before after : Lent) (handed : List ℕ) (result : ℕ) → DecodesCounted [] M before after handed result
    → (result ≡ 11) × (handed ≡ 0 ∷ 0 ∷ []) × (after ≡ before)
unfolding first_refusal valid_form
decodes_none M before after handed result h =
    let told = h.decodes.0 in
    (h.hands.number ∙ ap (λ r. r.number) told, h.hands.list ∙ ap (λ r. r.price ∷ r.filled ∷ []) told, h.decodes.1)

compiled : compile_call (bytes "ab") (bytes "ab*") 5 ≡ passed form
unfolding cases
compiled = cases_stated.1.1.1.1.1.1.1.1.1.0

-- Read: price and lengths of word and form, the form, the path, and its word as characters; the last work word is untouched
reads :
    (form' : List ℕ) (after : Lent) (handed : List ℕ) (result : ℕ)
    → ReadsCounted (bytes "ab") (bytes "ab*") three (replicate 5 7) form' lent after handed result
    → (result ≡ 0)
    × (handed ≡ 4 ∷ 2 ∷ 5 ∷ [])
    × (form' ≡ form)
    × (after.path ≡ 1 ∷ 1 ∷ 2 ∷ 7 ∷ [])
    × (after.word ≡ 97 ∷ 98 ∷ 7 ∷ 7 ∷ [])
    × (drop 20 after.work ≡ 7 ∷ [])
unfolding first_refusal written collapse merge without_blanks
reads form' after handed result h =
    let m = compiled_means (bytes "ab") (bytes "ab*") 5 form compiled in
    let best = outcome_same three (Accepts (view form)) (WordsOf (bytes "ab") (bytes "ab*")) (λ w. (m.words w).0) (λ w. (m.words w).1) (some (1 ∷ 1 ∷ 2 ∷ [])) accepted in
    let a = rw compiled at h.reads.reads in
    let same = outcome_unique three (WordsOf (bytes "ab") (bytes "ab*")) a.outcome (some (1 ∷ 1 ∷ 2 ∷ [])) a.is best in
    let told = a.answered ∙ ap (outcome_report 5 three) same in (
      h.hands.number ∙ ap (λ r. r.number) told,
      h.hands.list ∙ ap (λ r. r.price ∷ r.filled ∷ r.form ∷ []) told,
      h.reads.memory ∙ ap (λ v. written (filling v) (replicate 5 7)) compiled,
      a.path ∙ ap (λ o. written (path_of o) lent.path) same,
      a.word ∙ ap (λ o. written (word_of (characters (bytes "ab")) o) lent.word) same,
      a.work,
    )

-- the alphabet is first and the text second: an empty alphabet is 1, and an empty text would be 2
alphabet_first :
    (M : Matrix) (form form' : List ℕ) (before after : Lent) (handed : List ℕ) (result : ℕ)
    → ReadsCounted [] (bytes "a") M form form' before after handed result
    → (result ≡ 1) × (handed ≡ 0 ∷ 0 ∷ 0 ∷ []) × (form' ≡ form) × (after ≡ before)
unfolding compile_call if_passed unless written
alphabet_first M form form' before after handed result h =
    let told = h.reads.reads.0 in
    (h.hands.number ∙ ap (λ r. r.number) told, h.hands.list ∙ ap (λ r. r.price ∷ r.filled ∷ r.form ∷ []) told, h.reads.memory, h.reads.reads.1)

-- `a` on the same columns: path 1 1 0, price 7
abbrev single : List ℕ
single = 0x10020001 ∷ 0x20000301 ∷ []

accepted_single : Outcome (Accepts (view single)) three (some (1 ∷ 1 ∷ 0 ∷ []))
unfolding decided exhaustive over better preferred not_after usable collapse merge without_blanks spells numbers follow_of ends_of valid_form ordered
accepted_single =
    let d = accepts_decides (view single) 2 (view_proper single refl) in
    decided_outcome three (Accepts (view single)) (accepts (view single)) (λ w. (d w).0) (λ w. (d w).1)

-- Compare: 4 less 7; the last work word is untouched
compares :
    (after : List ℕ) (handed : List ℤ) (result : ℕ) → ComparesHanded form single three (replicate 21 7) after handed result
    → (result ≡ 0) × (handed ≡ negsuc 2 ∷ []) × (drop 20 after ≡ 7 ∷ [])
unfolding first_refusal valid_form ordered
compares after handed result h =
    let a = h.compares in
    let one = outcome_unique three (Accepts (view form)) a.first (some (1 ∷ 1 ∷ 2 ∷ [])) a.first_is accepted in
    let two = outcome_unique three (Accepts (view single)) a.second (some (1 ∷ 1 ∷ 0 ∷ [])) a.second_is accepted_single in
    let told = a.answered ∙ ap₂ (difference_report three) one two in
    (h.hands.number ∙ ap (λ (c : Comparison). c.number) told, h.hands.list ∙ ap (λ (c : Comparison). c.difference ∷ []) told, a.work.beyond)

-- a list that is no form in the second place: 11, a difference of 0, and memory as it was
compares_none :
    (M : Matrix) (before after : List ℕ) (handed : List ℤ) (result : ℕ) → ComparesHanded form [] M before after handed result
    → (result ≡ 11) × (handed ≡ pos 0 ∷ []) × (after ≡ before)
unfolding first_refusal valid_form ordered
compares_none M before after handed result h =
    let told = h.compares.0 in
    (h.hands.number ∙ ap (λ (c : Comparison). c.number) told, h.hands.list ∙ ap (λ (c : Comparison). c.difference ∷ []) told, h.compares.1)
