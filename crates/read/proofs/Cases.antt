-- Document 01's lines to try that are marked P, and lines with barred labels (document 02, T-06) and with two shapes of seven (T-07), as one
-- checked list: each case is data, one test is computed over all of them from the definitions, and one law turns the test into the statement.
use Rattle.std.specs.Prelude.{ℕ, ◌+◌, refl, Bool, true, false, ◌&&◌, length, get_or, eqb, Result, Ok, Err}
use Prim.Native.String.{String}
use Rattle.std.proofs.Math.Path.{◌≡◌, subst}
use Rattle.std.proofs.Common.{ap, arith}
use Rattle.std.proofs.Math.Option.{Option, some, none}
use mathlib.Core.List.{List, [], ◌∷◌, flat_map}
use borrow.Author.Tests.{eqb-true}
use Rattle.lists.proofs.OrderLaws.{and_left, and_right}
use Rattle.lists.proofs.EachLaws.{all_each}
use Rattle.lists.specs.Lists.{any, keep, same_list, numbers}
use Rattle.lists.proofs.SameLaws.{same_list_true}
use Rattle.lists.specs.Each.{all, Each}
use Rattle.refusal.specs.declared.Refusal.{Refusal}
use Rattle.refusal.specs.Verdict.{Verdict, passed, refused, unless, if_passed, first_refusal}
use Rattle.refusal.specs.Report.{Report}
use Rattle.answers.specs.Decoded.{read as answer}
use Rattle.ctc.specs.Collapse.{merge, without_blanks, collapse}
use Rattle.alphabet.specs.Labels.{characters}
use Rattle.automaton.specs.Automaton.{Accepts}
use Rattle.automaton.specs.Form.{encode, view, letters_of, alphabet_of, follow_of, ends_of}
use Rattle.automaton.proofs.ValidLaws.{valid_at, valid_proper}
use Rattle.automaton.specs.Accepted.{spells, accepts}
use Rattle.automaton.proofs.AcceptedLaws.{accepts_decides}
use Rattle.matrix.specs.Matrix.{Matrix, matrix}
use Rattle.outcome.specs.Outcome.{Outcome}
use Rattle.outcome.proofs.OutcomeLaws.{outcome_same}
use Rattle.outcome.proofs.ChoiceLaws.{not_after, preferred, better}
use Rattle.outcome.proofs.Exhaustive.{over, exhaustive, usable, decided, decided_outcome}
use Rattle.text.specs.Bytes.{bytes}
use Rattle.regex_tree.specs.Letters.{labels_of, letter_count}
use Rattle.regex_tree.specs.Classes.{classes, look_up, class_ranges}
use Rattle.regex_tree.specs.Parsing.{then, enclosed}
use Rattle.text.specs.Text.{split}
use Rattle.lists.specs.Cases.{first_of, provided}
use Rattle.regex_tree.specs.Sets.{closed, reserved, items, members, ranges_of, known, inside, bracket, escaped, a_set, labelled_set}
use Rattle.regex_tree.specs.Repetition.{number, from_on, from_to, comma, counts, sign, repetition}
use Rattle.regex_tree.specs.Parse.{grouped, step, go, parse, whole, expression_of}
use Rattle.regex_tree.specs.Grammar.{WordsOf}
use Rattle.positions.specs.Opened.{any_of, copies, nested, repeated, opened, labels}
use Rattle.positions.specs.Numbered.{numbered, position_automaton}
use Rattle.compile.specs.Call.{compile_call}
use Rattle.compile.proofs.Meaning.{compiled_means}
use Rattle.decode_checks.specs.Checks.{Rooms, needed, matrix_checks}
use Rattle.decode_valid.specs.Answers.{outcome_report, word_of}

-- A case of Read: alphabet, text, costs, number of columns and words of form memory, with the path, its price and its word, or with the
-- number of the refusal. Or a case of Compile: alphabet and text, with the words of their form.
pub data Case : Type 0 where
  reads : (alphabet text : String) (costs : List ℕ) (columns form : ℕ) (path : List ℕ) (price : ℕ) (word : String) → Case
  refuses : (alphabet text : String) (costs : List ℕ) (columns form : ℕ) (number : ℕ) → Case
  compiles : (alphabet text : String) (words : List ℕ) → Case

-- memory exactly as long as needed for t columns and a form of l letters
abbrev exact : (t l : ℕ) → Rooms
exact t l = record { path = t; word = t; work = needed t l }

-- past Compile and the checks, in memory exactly as long as needed: the word as characters, and what is reported
pub record Answered (A s : List ℕ) (M : Matrix) (room : ℕ) (o : Option (List ℕ)) (w : List ℕ) (r : Report) : Type 0 where
  pub form : List ℕ
  pub compiles : compile_call A s room ≡ passed form
  pub size : length form ≡ room
  pub checks : first_refusal (matrix_checks (length A) (letters_of form) M (exact M.count (letters_of form))) ≡ Ok tt
  pub word : word_of (characters A) o ≡ w
  pub report : outcome_report (length form) M o ≡ r

-- what a case states: the outcome for the text's words, and what is answered; or the form's words
abbrev pub Stated : Case → Type 0
Stated (reads A s costs t k p c w) =
    Outcome (WordsOf (bytes A) (bytes s)) (matrix costs (length (bytes A) + 1) t) (some p)
    × Answered (bytes A) (bytes s) (matrix costs (length (bytes A) + 1) t) k (some p) (bytes w) (answer c (length (bytes w)) k)
Stated (refuses A s costs t k n) =
    Outcome (WordsOf (bytes A) (bytes s)) (matrix costs (length (bytes A) + 1) t) none
    × Answered (bytes A) (bytes s) (matrix costs (length (bytes A) + 1) t) k none [] (record { number = n; price = 0; filled = 0; form = 0 })
Stated (compiles A s f) = compile_call (bytes A) (bytes s) (length f) ≡ passed f

same : Option (List ℕ) → Option (List ℕ) → Bool
same none none = true
same none (some q) = false
same (some p) none = false
same (some p) (some q) = same_list p q

-- a report as a list, and back
figures : Report → List ℕ
figures r = r.number ∷ (r.price ∷ (r.filled ∷ (r.form ∷ [])))

from_figures : List ℕ → Report
from_figures l = record { number = get_or l 0 0; price = get_or l 1 0; filled = get_or l 2 0; form = get_or l 3 0 }

passing : Result (Unit {0}) Refusal → Bool
passing (Ok _) = true
passing (Err n) = false

-- what is answered with the form f, as a test
answered : (A f : List ℕ) → Matrix → ℕ → Option (List ℕ) → List ℕ → Report → Bool
answered A f M k o w r =
    eqb (length f) k
    && (passing (first_refusal (matrix_checks (length A) (letters_of f) M (exact M.count (letters_of f))))
    && (same_list (word_of (characters A) o) w && same_list (figures (outcome_report (length f) M o)) (figures r)))

-- the test: Compile's form, the search over all lists of labels, and what is answered
tried : Verdict (List ℕ) → List ℕ → Matrix → ℕ → Option (List ℕ) → List ℕ → Report → Bool
tried (refused n) A M k o w r = false
tried (passed f) A M k o w r = same (decided M (accepts (view f))) o && answered A f M k o w r

compiled : Verdict (List ℕ) → List ℕ → Bool
compiled (refused n) f = false
compiled (passed g) f = same_list g f

holds : Case → Bool
holds (reads A s costs t k p c w) =
    tried (compile_call (bytes A) (bytes s) k) (bytes A) (matrix costs (length (bytes A) + 1) t) k (some p) (bytes w) (answer c (length (bytes w)) k)
holds (refuses A s costs t k n) =
    tried (compile_call (bytes A) (bytes s) k) (bytes A) (matrix costs (length (bytes A) + 1) t) k none [] (record { number = n; price = 0; filled = 0; form = 0 })
holds (compiles A s f) = compiled (compile_call (bytes A) (bytes s) (length f)) f

same_true : (a b : Option (List ℕ)) → same a b ≡ true → a ≡ b
unfolding same
same_true none none e = refl
same_true none (some q) e = let z : ◌≡◌ {A = ℕ} 0 1 = cc in absurd (omega arith)
same_true (some p) none e = let z : ◌≡◌ {A = ℕ} 0 1 = cc in absurd (omega arith)
same_true (some p) (some q) e = ap {B = Option (List ℕ)} some (same_list_true p q e)

figures_true : (a b : Report) → same_list (figures a) (figures b) ≡ true → a ≡ b
unfolding figures from_figures
figures_true a b e = ap from_figures (same_list_true (figures a) (figures b) e)

passing_true : (c : Result (Unit {0}) Refusal) → passing c ≡ true → c ≡ Ok tt
unfolding passing
passing_true (Ok _) e = refl
passing_true (Err n) e = let z : ◌≡◌ {A = ℕ} 0 1 = cc in absurd (omega arith)

module _ (A s : List ℕ) (M : Matrix) (k : ℕ) (o : Option (List ℕ)) (w : List ℕ) (r : Report) where
  answered_true : (f : List ℕ) → compile_call A s k ≡ passed f → answered A f M k o w r ≡ true → Answered A s M k o w r
  unfolding answered
  answered_true f e h =
      let c = first_refusal (matrix_checks (length A) (letters_of f) M (exact M.count (letters_of f))) in
      let u = same_list (word_of (characters A) o) w in
      let v = same_list (figures (outcome_report (length f) M o)) (figures r) in
      let rest = and_right (eqb (length f) k) (passing c && (u && v)) h in
      let both = and_right (passing c) (u && v) rest in
      record {
        form = f;
        compiles = e;
        size = eqb-true (length f) k (and_left (eqb (length f) k) (passing c && (u && v)) h);
        checks = passing_true c (and_left (passing c) (u && v) rest);
        word = same_list_true (word_of (characters A) o) w (and_left u v both);
        report = figures_true (outcome_report (length f) M o) r (and_right u v both);
      }

  tried_true :
      (v : Verdict (List ℕ)) → compile_call A s k ≡ v → tried v A M k o w r ≡ true → Outcome (WordsOf A s) M o × Answered A s M k o w r
  unfolding tried
  tried_true (refused n) e h = let z : ◌≡◌ {A = ℕ} 0 1 = cc in absurd (omega arith)
  tried_true (passed f) e h =
      let m = compiled_means A s k f e in
      let d = accepts_decides (view f) (alphabet_of f) (valid_proper f (valid_at f m.valid)) in
      let found = same_true (decided M (accepts (view f))) o (and_left (same (decided M (accepts (view f))) o) (answered A f M k o w r) h) in (
        subst (Outcome (WordsOf A s) M) found
            (outcome_same M (Accepts (view f)) (WordsOf A s) (λ w. (m.words w).0) (λ w. (m.words w).1) (decided M (accepts (view f)))
            (decided_outcome M (Accepts (view f)) (accepts (view f)) (λ w. (d w).0) (λ w. (d w).1))),
        answered_true f e (and_right (same (decided M (accepts (view f))) o) (answered A f M k o w r) h),
      )

compiled_true : (v : Verdict (List ℕ)) (f : List ℕ) → compiled v f ≡ true → v ≡ passed f
unfolding compiled
compiled_true (refused n) f e = let z : ◌≡◌ {A = ℕ} 0 1 = cc in absurd (omega arith)
compiled_true (passed g) f e = ap {B = Verdict (List ℕ)} passed (same_list_true g f e)

holds_stated : (c : Case) → holds c ≡ true → Stated c
unfolding holds
holds_stated (reads A s costs t k p c w) h =
    tried_true (bytes A) (bytes s) (matrix costs (length (bytes A) + 1) t) k (some p) (bytes w) (answer c (length (bytes w)) k) (compile_call (bytes A) (bytes s) k) refl h
holds_stated (refuses A s costs t k n) h =
    tried_true (bytes A) (bytes s) (matrix costs (length (bytes A) + 1) t) k none [] (record { number = n; price = 0; filled = 0; form = 0 })
    (compile_call (bytes A) (bytes s) k) refl h
holds_stated (compiles A s f) h = compiled_true (compile_call (bytes A) (bytes s) (length f)) f h

unfoldable pub cases : List Case
cases =
    reads "ab" "ab" (5 ∷ 1 ∷ 9 ∷ 5 ∷ 9 ∷ 2 ∷ []) 2 4 (1 ∷ 2 ∷ []) 3 "ab"
    ∷ reads "ab" "aa" (5 ∷ 1 ∷ 9 ∷ 5 ∷ 1 ∷ 9 ∷ 5 ∷ 1 ∷ 9 ∷ []) 3 4 (1 ∷ 0 ∷ 1 ∷ []) 7 "aa"
    ∷ refuses "ab" "aa" (5 ∷ 1 ∷ 9 ∷ 5 ∷ 1 ∷ 9 ∷ []) 2 4 16
    ∷ reads "ab" "a*" [] 0 3 [] 0 ""
    ∷ refuses "ab" "a" [] 0 2 16
    ∷ reads "ab" "a|b" (0 ∷ 4 ∷ 4 ∷ []) 1 3 (1 ∷ []) 4 "a"
    ∷ reads "ab" "a" (0 ∷ 0 ∷ 0 ∷ 0 ∷ 0 ∷ 0 ∷ []) 2 2 (0 ∷ 1 ∷ []) 0 "a"
    ∷ reads "ab" "a{2}" (1 ∷ 0 ∷ 9 ∷ 1 ∷ 0 ∷ 9 ∷ 1 ∷ 0 ∷ 9 ∷ 1 ∷ 0 ∷ 9 ∷ []) 4 4 (1 ∷ 0 ∷ 1 ∷ 1 ∷ []) 1 "aa"
    ∷ reads "ab" "(a|b)*" (3 ∷ 1 ∷ 1 ∷ 3 ∷ 1 ∷ 1 ∷ []) 2 7 (1 ∷ 1 ∷ []) 2 "a"
    ∷ compiles "ab" "ab*" (0x10020002 ∷ 0x20000301 ∷ 0x20000202 ∷ 0x30000102 ∷ 0x30000202 ∷ [])
    ∷ refuses "ab" "aa" (5 ∷ 1 ∷ 9 ∷ 4294967295 ∷ 1 ∷ 9 ∷ 5 ∷ 1 ∷ 9 ∷ []) 3 4 16
    ∷ reads "ab" "a" (4294967295 ∷ 7 ∷ 0 ∷ 0 ∷ 2 ∷ 0 ∷ []) 2 2 (1 ∷ 0 ∷ []) 7 "a"
    ∷ reads "ab" "a|b" (0 ∷ 4294967295 ∷ 4 ∷ []) 1 3 (2 ∷ []) 4 "b"
    ∷ refuses "ab" "a*" (0 ∷ 0 ∷ 0 ∷ 4294967295 ∷ 4294967295 ∷ 4294967295 ∷ []) 2 3 16
    -- a crossed and a plain 7 side by side are two sevens without a blank; the same 7 twice is one; one 7 may have either shape, the first
    -- label at equal price, the other where one is barred
    ∷ reads "77" "77" (0 ∷ 1 ∷ 5 ∷ 0 ∷ 5 ∷ 1 ∷ []) 2 9 (1 ∷ 2 ∷ []) 2 "77"
    ∷ reads "77" "77" (0 ∷ 1 ∷ 5 ∷ 0 ∷ 1 ∷ 5 ∷ []) 2 9 (1 ∷ 2 ∷ []) 6 "77"
    ∷ refuses "7" "77" (0 ∷ 1 ∷ 0 ∷ 1 ∷ []) 2 4 16
    ∷ reads "77" "7" (0 ∷ 1 ∷ 5 ∷ 0 ∷ 5 ∷ 1 ∷ []) 2 3 (0 ∷ 2 ∷ []) 1 "7"
    ∷ reads "7a7" "[^7]" (0 ∷ 0 ∷ 5 ∷ 0 ∷ []) 1 2 (2 ∷ []) 5 "a"
    ∷ reads "77" "7" (9 ∷ 1 ∷ 5 ∷ 9 ∷ 5 ∷ 1 ∷ []) 2 3 (1 ∷ 1 ∷ []) 6 "7"
    ∷ reads "77" "7" (9 ∷ 4 ∷ 4 ∷ []) 1 3 (1 ∷ []) 4 "7"
    ∷ reads "77" "7" (9 ∷ 4294967295 ∷ 4 ∷ []) 1 3 (2 ∷ []) 4 "7"
    ∷ compiles "77" "77" (0x10020004 ∷ 0x20000101 ∷ 0x20000102 ∷ 0x20000201 ∷ 0x20000202 ∷ 0x30000103 ∷ 0x30000104 ∷ 0x30000203 ∷ 0x30000204 ∷ [])
    ∷ []

-- every case holds
pub cases_stated : Each Stated cases
unfolding cases holds compiled tried answered passing figures first_refusal same decided exhaustive over better preferred not_after usable collapse merge without_blanks spells follow_of ends_of compile_call if_passed unless keep numbers flat_map encode labels_of letter_count then first_of split enclosed provided closed reserved items members ranges_of class_ranges look_up classes known inside bracket escaped a_set labelled_set number from_on from_to comma counts sign repetition grouped step go parse whole expression_of any_of copies nested repeated opened labels numbered position_automaton
cases_stated = all_each holds Stated holds_stated cases refl
