-- Demand 2, stated of CompileList: the form that it writes is valid, and accepts a list of labels exactly if their characters spell a listed
-- word; and the other way, what no refusal turns away compiles.
use Rattle.std.specs.Prelude.{ℕ, ◌≤◌, ◌↔◌, List, [], ◌∷◌, length, get_or, ltb, Ok}
use Rattle.std.proofs.Math.Path.{◌≡◌, refl, ap}
use Rattle.std.proofs.Common.{sym, subst, ◌∙◌, inl, arith, ltb-false, le-ltb}
use Rattle.std.proofs.Math.Option.{some}
use mathlib.Core.Logic.Iff.{trans as iff_trans, symm as iff_symm}
use Rattle.lists.specs.Each.{Each}
use Rattle.lists.specs.Lists.{Among}
use Rattle.lists.proofs.AmongLaws.{among_at, among_index, each_among}
use Rattle.refusal.specs.declared.Refusal.TheVariants.{Letters, FormMemory}
use Rattle.refusal.specs.Verdict.{Verdict, passed, refused, check, unless, if_passed, first_refusal}
use Rattle.refusal.proofs.VerdictLaws.{unless_neither, unless_passed, unless_same, unless_all}
use Rattle.alphabet.specs.Labels.{characters, labels_of_character}
use Rattle.alphabet.proofs.LabelsLaws.{label_of, labelled_exactly, labels_for}
use Rattle.automaton.specs.Automaton.{Accepts}
use Rattle.automaton.specs.Form.{view}
use Rattle.automaton.proofs.EncodeLaws.{encode_valid, encode_accepts, letters_same, alphabet_same}
use Rattle.text_lines.specs.Lines.{lines_of}
use Rattle.text_lines.proofs.LinesLaws.{some_line}
use Rattle.wordlist.specs.Words.{words}
use Rattle.wordlist.proofs.WordsLaws.{fault_exactly, foreign_exactly}
use Rattle.wordlist.specs.PrefixTree.{letter_with, no_letter, letters_in, prefix_tree, list_form}
use Rattle.wordlist.proofs.LettersLaws.{letters_exactly}
use Rattle.wordlist.proofs.Exact.{tree_proper, accepts_listed}
use Rattle.wordlist_build.specs.State.{Readable}
use Rattle.compile_list.specs.Call.{list_checks, formed, compile_list_call}
use Rattle.compile_list.proofs.WrittenLaws.{tree_letters}
use Rattle.compile_list.proofs.CallLaws.{passed_checks, call_passed}
use Rattle.compile_list.specs.Means.{ListMeans}

module _ (A s : List ℕ) where
  -- a list that is not empty has a word, and so a letter
  some_word : 1 ≤ length s → Readable A s → (c : ℕ) × (w : List ℕ) × Among (c ∷ w) (words s)
  some_word l r = let f = (fault_exactly s).0 r.no_fault in by (words s) f.0 f.1
    where
      by : (ws : List (List ℕ)) → lines_of s ≡ some ws → Each (λ w. 1 ≤ length w) ws → (c : ℕ) × (w : List ℕ) × Among (c ∷ w) ws
      by [] e n = absurd (some_line s l e)
      by ([] ∷ ws) e n = let z = n.0 in absurd (omega arith)
      by ((c ∷ w) ∷ ws) e n = (c, w, inl refl)

  some_letter : 1 ≤ length s → Readable A s → 1 ≤ length (letters_in A (words s))
  some_letter l r =
      let first = some_word l r in
      let c = first.0 in
      let known = each_among (Each (λ c. Among c A)) (c ∷ first.1) (words s) ((foreign_exactly A (words s)).0 r.no_foreign) first.2 in
      let some = (labelled_exactly A c).1 known.0 in
      let x = get_or (labels_of_character A c) 0 0 in
      let label = (label_of A c x).0 (among_at 0 (labels_of_character A c) 0 (omega arith)) in
      let z = letter_with (record { before = []; character = c }) x in
      let i = among_index no_letter z (letters_in A (words s)) ((letters_exactly A (words s) z).1 ((first.1, first.2), label.0, label.1)) in
      let h = i.1 in
      omega arith

  module _ (room : ℕ) (f : List ℕ) where
    -- what is passed on past the checks
    checked : compile_list_call A s room ≡ passed f → (first_refusal (list_checks A s) ≡ Ok tt) × (formed A room (words s) ≡ passed f)
    unfolding compile_list_call if_passed
    checked e = by (unless (list_checks A s) (words s)) refl e
      where
        by :
            (v : Verdict (List (List ℕ))) → unless (list_checks A s) (words s) ≡ v → if_passed v (formed A room) ≡ passed f
            → (first_refusal (list_checks A s) ≡ Ok tt) × (formed A room (words s) ≡ passed f)
        by (refused n) h g = let z : ◌≡◌ {A = ℕ} 0 1 = cc in absurd (omega arith)
        by (passed ws) h g = let r = unless_all (words s) ws (list_checks A s) h in (r.0, ap (formed A room) r.1 ∙ g)

    -- the theorem a user reads
    pub list_means : compile_list_call A s room ≡ passed f → ListMeans A s f
    list_means e =
        let ws = words s in
        let c = checked e in
        let a = unless_passed (list_form A ws) f (ltb 127 (length (letters_in A ws))) Letters (check (ltb room (length (list_form A ws))) FormMemory ∷ []) c.1 in
        let b = unless_passed (list_form A ws) f (ltb room (length (list_form A ws))) FormMemory [] a.1 in
        let p = passed_checks A s c.0 in
        let k = p.alphabet in
        let n = tree_letters A ws in
        let some : 1 ≤ (prefix_tree A ws).letters = (let m = some_letter p.bytes.0 p.readable in omega arith) in
        let few : (prefix_tree A ws).letters ≤ 127 = (let m = ltb-false 127 (length (letters_in A ws)) a.0 in omega arith) in
        let proper = tree_proper A ws in
        subst (ListMeans A s) (unless_same (list_form A ws) f b.1)
        (record {
          valid = encode_valid (length A) (prefix_tree A ws) proper some few k.0 k.1;
          alphabet = alphabet_same (length A) (prefix_tree A ws) proper some few k.0 k.1;
          letters = letters_same (length A) (prefix_tree A ws) proper some few k.0 k.1 ∙ n;
          lines = ((fault_exactly s).0 p.readable.no_fault).0;
          accepts = λ w. iff_trans (iff_symm (encode_accepts (length A) (prefix_tree A ws) proper some few k.0 k.1 w)) (accepts_listed A ws w);
        })

    -- the listed words are what the form accepts, spelt
    pub list_spelt : compile_list_call A s room ≡ passed f → (v : List ℕ) → Among v (words s) ↔ ((w : List ℕ) × Accepts (view f) w × (characters A w ≡ v))
    list_spelt e v =
        let accepts = (list_means e).accepts in
        let known = (foreign_exactly A (words s)).0 (passed_checks A s (checked e).0).readable.no_foreign in (
          λ m.
              let r = labels_for A v (each_among (Each (λ c. Among c A)) v (words s) known m) in
              (r.0, (accepts r.0).1 (r.1, subst (λ l. Among l (words s)) (sym r.2) m), r.2),
          λ h. subst (λ l. Among l (words s)) h.2 ((accepts h.0).0 h.1).1,
        )

  -- The other way: what no refusal turns away compiles.
  pub list_compiles :
      (room : ℕ) → first_refusal (list_checks A s) ≡ Ok tt → length (letters_in A (words s)) ≤ 127 → length (list_form A (words s)) ≤ room
      → compile_list_call A s room ≡ passed (list_form A (words s))
  list_compiles room e few fits =
      let f = list_form A (words s) in
      call_passed A s room (sym e)
      ∙ unless_neither f (ltb 127 (length (letters_in A (words s)))) (ltb room (length f)) Letters FormMemory (le-ltb 127 (length (letters_in A (words s))) few) (le-ltb room (length f) fits)
