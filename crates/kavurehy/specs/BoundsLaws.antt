-- The lengths that the calls report fit in 32 bits.
use Rattle.std.specs.Prelude.{ℕ, ◌*◌, ◌^◌, ◌<◌, ◌≤◌, ◌≡◌, Bool, not, ◌||◌, length, ltb, Result, Ok, Err}
use Rattle.std.proofs.Math.Path.{refl}
use Rattle.std.proofs.Common.{ap, mul-le-mul, length-append, ltb-false}
use Rattle.std.proofs.Math.Bool.{true, false}
use mathlib.Core.List.{List, [], ◌∷◌, map, flat_map}
use Rattle.std.proofs.Math.Option.{Option, some, none}
use native.Mathlib.Omega.{arith}
use Rattle.std.proofs.lemmas.List.{length-map}
use Rattle.lists.specs.Lists.{in_range, keep, numbers}
use Rattle.lists.specs.Each.{all}
use Rattle.lists.proofs.OrderLaws.{or_neither}
use Rattle.lists.proofs.AmongLaws.{keep_shorter, flat_length}
use Rattle.lists.proofs.AscendingLaws.{length_numbers}
use Rattle.refusal.specs.declared.Refusal.{Refusal}
use Rattle.refusal.specs.declared.Refusal.TheVariants.{BadForm, OutputMemory, Label}
use Rattle.refusal.specs.Verdict.{Verdict, passed, refused, check, unless, first_refusal}
use Rattle.refusal.proofs.VerdictLaws.{first_passed}
use Rattle.refusal.specs.Checks.{Checks}
use Rattle.refusal.specs.Report.{Report, turned_away}
use Rattle.refusal.specs.Fills.{report, Fills}
use Rattle.ctc.specs.Collapse.{collapse}
use Rattle.ctc.proofs.CollapseLaws.{collapse_shorter}
use Rattle.ctc.specs.Spread.{spread}
use Rattle.ctc.proofs.SpreadLaws.{spread_length}
use Rattle.ctc_labels.specs.Calls.{label_fault}
use Rattle.ctc_collapse.specs.Calls.{collapse_call}
use Rattle.ctc_spread.specs.Calls.{spread_call}
use Rattle.ctc_spread.proofs.Loops.{few_pairs_in}
use Rattle.automaton.specs.Automaton.{Accepts}
use Rattle.automaton.specs.Form.{valid_form, view, letters_of, alphabet_of, arc_word, letter_of, arcs_from, encode}
use Rattle.automaton.proofs.ValidLaws.{valid_parts}
use Rattle.automaton.proofs.EncodeLaws.{encode_view}
use Rattle.matrix.specs.Matrix.{Matrix}
use Rattle.outcome.specs.Outcome.{Outcome}
use Rattle.regex_tree.specs.Grammar.{WordsOf}
use Rattle.compile.specs.Call.{compile_call}
use Rattle.compile.proofs.Meaning.{compiled_means}
use Rattle.compile_list.specs.Call.{compile_list_call}
use Rattle.compile_list.proofs.Meaning.{list_means}
use Rattle.decode_checks.specs.Checks.{needed, matrix_checks, decode_checks}
use Rattle.decode_checks.proofs.PassingLaws.{fits}
use Rattle.decode_valid.specs.Answers.{labels, Answers, outcome_report}
use Rattle.decode_valid.specs.Lent.{Lent, rooms}
use Rattle.decode.specs.Promise.{Decodes}
use Rattle.alphabet.specs.Labels.{characters}
use Rattle.read_text.specs.Promise.{ReadsBy, Reads}

-- Collapse and Spread: what passes the checks is short.
module _ (few : ℕ) (w : List ℕ) where
  filled_few :
      (s t : Bool) (m n : Refusal) → (t ≡ false → length w ≤ few) → (report (unless (check s m ∷ (check t n ∷ [])) w)).filled ≤ few
  unfolding unless
  filled_few true t m n h = omega arith
  filled_few false true m n h = omega arith
  filled_few false false m n h = h refl

short : (k low : ℕ) (list : List ℕ) → label_fault k low list ≡ false → length list ≤ 255
short k low list e =
    let a = or_neither (not (in_range 1 95 k)) (ltb 255 (length list) || not (all (in_range low k) list)) e in
    let b = or_neither (ltb 255 (length list)) (not (all (in_range low k) list)) a.1 in
    ltb-false 255 (length list) b.0

collapse_few : (k : ℕ) (path : List ℕ) (room : ℕ) → (report (collapse_call k path room)).filled ≤ 255
unfolding collapse_call
collapse_few k path room =
    filled_few 255 (collapse path) (ltb room (length path)) (label_fault k 0 path) OutputMemory Label
    (λ e. let h = short k 0 path e in omega (arith, collapse_shorter path))

spread_few : (k : ℕ) (word : List ℕ) (room : ℕ) → (report (spread_call k word room)).filled ≤ 510
unfolding spread_call
spread_few k word room =
    filled_few 510 (spread word) (ltb room (length (spread word))) (label_fault k 1 word) OutputMemory Label
    (λ e. let h = short k 1 word e in omega (arith, spread_length word, few_pairs_in word))

-- Compile and CompileList: a form has its head, a word for each of at most 127 letters, and at most an arc from each to each.
pub form_few : (f : List ℕ) → valid_form f ≡ true → length f ≤ 16257
unfolding encode
form_few f valid =
    let A = view f in
    let letters = numbers 1 A.letters in
    let few : A.letters ≤ 127 = (valid_parts f valid).head.letters_high in
    let size = length_numbers 1 A.letters in
    let count : length letters ≤ 127 = omega arith in
    let row : (i : ℕ) → length (arcs_from A i) ≤ A.letters = λ i. omega (arith, length-map (keep (A.follow i) letters) (arc_word i), keep_shorter (A.follow i) letters) in
    let arcs = flat_length (arcs_from A) A.letters row letters in
    let square : length letters * A.letters ≤ 127 * 127 = mul-le-mul count few in
    let same = ap length (encode_view f valid) in
    omega (arith, length-map letters (letter_of A), length-append (map (letter_of A) letters) (flat_map (arcs_from A) letters))

-- a call that fills a valid form
form_filled : (v : Verdict (List ℕ)) → ((f : List ℕ) → v ≡ passed f → valid_form f ≡ true) → (report v).filled ≤ 16257
form_filled (refused n) valid = omega arith
form_filled (passed f) valid = form_few f (valid f refl)

module _ {answer : Report} {before after : List ℕ} where
  pub collapse_fits : (k : ℕ) (path : List ℕ) (room : ℕ) → Fills (collapse_call k path room) answer before after → answer.filled < 2 ^ 32
  collapse_fits k path room h = rw h.answered (omega (arith, collapse_few k path room))

  pub spread_fits : (k : ℕ) (word : List ℕ) (room : ℕ) → Fills (spread_call k word room) answer before after → answer.filled < 2 ^ 32
  spread_fits k word room h = rw h.answered (omega (arith, spread_few k word room))

  pub compile_fits : (A s : List ℕ) (room : ℕ) → Fills (compile_call A s room) answer before after → answer.filled < 2 ^ 32
  compile_fits A s room h = rw h.answered (omega (arith, form_filled (compile_call A s room) (λ f e. (compiled_means A s room f e).valid)))

  pub list_fits : (A s : List ℕ) (room : ℕ) → Fills (compile_list_call A s room) answer before after → answer.filled < 2 ^ 32
  list_fits A s room h = rw h.answered (omega (arith, form_filled (compile_list_call A s room) (λ f e. (list_means A s room f e).valid)))

-- Decode and Read: the word is no longer than the path, which has a label for each of at most 255 columns.
module _ (Word : List ℕ → Type 0) (spelt : List ℕ → List ℕ) (form : ℕ) (M : Matrix) where
  outcome_few : M.count ≤ 255 → (o : Option (List ℕ)) → Outcome Word M o → ((outcome_report form M o).filled ≤ 255) × ((outcome_report form M o).form ≤ form)
  outcome_few few none h = (omega arith, omega arith)
  outcome_few few (some p) h = let e = h.qualifies.path.one_each in (omega (arith, collapse_shorter p), omega arith)

  answers_few :
      (need : ℕ) (before after : Lent) (answer : Report) (c : Result (Unit {0}) Refusal) → (c ≡ Ok tt → M.count ≤ 255)
      → Checks turned_away c (Answers Word spelt form M need) before after answer → (answer.filled ≤ 255) × (answer.form ≤ form)
  answers_few need before after answer (Err n) few h = rw h.0 (omega arith, omega arith)
  answers_few need before after answer (Ok _) few h = rw h.answered (outcome_few (few refl) h.outcome h.is)

pub decode_fits : (f : List ℕ) (M : Matrix) (before after : Lent) (answer : Report) → Decodes f M before after answer → answer.filled < 2 ^ 32
decode_fits f M before after answer h =
    let checks = matrix_checks (alphabet_of f) (letters_of f) M (rooms before) in
    let few =
    answers_few (Accepts (view f)) labels 0 M (needed M.count (letters_of f)) before after answer (first_refusal (decode_checks f M (rooms before)))
    (λ e. (fits (alphabet_of f) (letters_of f) M (rooms before) (first_passed (not (valid_form f)) BadForm checks e).1).few) h in
    omega arith

module _ {A s : List ℕ} {M : Matrix} {form form' : List ℕ} {before after : Lent} {answer : Report} where
  pub read_fits : Reads A s M form form' before after answer → (answer.filled < 2 ^ 32) × (answer.form < 2 ^ 32)
  read_fits h = by (compile_call A s (length form)) refl h.reads
    where
      by : (v : Verdict (List ℕ)) → compile_call A s (length form) ≡ v → ReadsBy v A s M before after answer → (answer.filled < 2 ^ 32) × (answer.form < 2 ^ 32)
      by (refused n) e r = rw r.0 (omega arith, omega arith)
      by (passed f) e r =
          let short = form_few f (compiled_means A s (length form) f e).valid in
          let few =
          answers_few (WordsOf A s) (characters A) (length f) M (needed M.count (letters_of f)) before after answer
          (first_refusal (matrix_checks (length A) (letters_of f) M (rooms before))) (λ e. (fits (length A) (letters_of f) M (rooms before) e).few) r in
          (omega arith, omega arith)
