-- Demand 2, stated of Compile: the form that it writes is valid, and accepts a word exactly if the expression's set of words, which goes by
-- its text, has it.
use Rattle.std.specs.Prelude.{ℕ, ◌≤◌, not, ◌↔◌, length, ltb, Ok}
use Rattle.std.proofs.Math.Path.{◌≡◌, refl, ap}
use Rattle.std.proofs.Common.{sym, ◌∙◌, subst, arith, ltb-false, le-ltb}
use mathlib.Core.Logic.Iff.{trans as iff_trans, symm as iff_symm}
use mathlib.Core.List.{List, [], ◌∷◌}
use Rattle.std.proofs.lemmas.Bool.{not-false}
use Rattle.lists.specs.Lists.{in_range}
use Rattle.lists.specs.Each.{all}
use Rattle.refusal.specs.declared.Refusal.TheVariants.{Alphabet, TextLength, TextByte, Letters, FormMemory}
use Rattle.refusal.specs.Verdict.{Verdict, passed, refused, check, unless, if_passed, first_refusal}
use Rattle.refusal.proofs.VerdictLaws.{unless_neither, unless_passed, unless_same, first_all}
use Rattle.alphabet.specs.Labels.{characters}
use Rattle.automaton.specs.Automaton.{Accepts}
use Rattle.automaton.specs.Form.{view}
use Rattle.regex_tree.specs.Tree.{Tree}
use Rattle.regex_tree.specs.Parsing.{Parsing, found, fault}
use Rattle.regex_tree.specs.Letters.{letter_count}
use Rattle.regex_tree.specs.Parse.{expression_of}
use Rattle.regex_tree.specs.Grammar.{TextOf}
use Rattle.regex_tree.proofs.Exact.{exact, words_of_text, expression_whole}
use Rattle.regex_tree.specs.Characters.{CharacterWordsOf, SpellsWord}
use Rattle.regex_tree.proofs.CharactersLaws.{words_of_spelt, all_spelt}
use Rattle.regex_tree.proofs.SenseLaws.{sensible}
use Rattle.positions.specs.Compiled.{form_of}
use Rattle.positions.proofs.CompiledLaws.{form_valid, form_alphabet, form_letters, form_words}
use Rattle.alphabet.specs.Alphabet.{is_alphabet, text_checks}
use Rattle.alphabet.proofs.AlphabetLaws.{alphabet_exactly}
use Rattle.compile.specs.Call.{parsed_form, compile_call}
use Rattle.compile.specs.Means.{Means}

module _ (A s : List ℕ) (room : ℕ) (f : List ℕ) where
  tree : (low : 1 ≤ length A) (high : length A ≤ 95) (y : Parsing Tree) → expression_of A s ≡ y → parsed_form A room y ≡ passed f → Means A s f
  tree low high (fault n rest) e h = let z : ◌≡◌ {A = ℕ} 0 1 = cc in absurd (omega arith)
  tree low high (found t rest) e h =
      let a = unless_passed (form_of A t) f (ltb 127 (letter_count A t)) Letters (check (ltb room (length (form_of A t))) FormMemory ∷ []) h in
      let b = unless_passed (form_of A t) f (ltb room (length (form_of A t))) FormMemory [] a.1 in
      let same = unless_same (form_of A t) f b.1 in
      let few : letter_count A t ≤ 127 = ltb-false 127 (letter_count A t) a.0 in
      let whole : expression_of A s ≡ found t [] = e ∙ ap (found t) (expression_whole A s t rest e) in
      let o = sensible A t 16 s ((exact A s t).0 whole) in
      subst (Means A s) same
      (record {
        valid = form_valid A t o low high few;
        alphabet = form_alphabet A t o low high few;
        tree = t;
        text = (exact A s t).0 whole;
        letters = form_letters A t o low high few;
        words = λ w. iff_trans (form_words A t o low high few w) (iff_symm (words_of_text A s t whole w));
      })

  -- the theorem a user reads
  pub compiled_means : compile_call A s room ≡ passed f → Means A s f
  unfolding compile_call if_passed
  compiled_means e = by (unless (text_checks A s) s) refl e
    where
      by : (v : Verdict (List ℕ)) → unless (text_checks A s) s ≡ v → if_passed v (λ s. parsed_form A room (expression_of A s)) ≡ passed f → Means A s f
      by (refused n) h g = let z : ◌≡◌ {A = ℕ} 0 1 = cc in absurd (omega arith)
      by (passed s') h g =
          let a = unless_passed s s' (not (is_alphabet A)) Alphabet (check (not (in_range 1 255 (length s))) TextLength ∷ (check (not (all (in_range 32 126) s)) TextByte ∷ [])) h in
          let b = unless_passed s s' (not (in_range 1 255 (length s))) TextLength (check (not (all (in_range 32 126) s)) TextByte ∷ []) a.1 in
          let c = unless_passed s s' (not (all (in_range 32 126) s)) TextByte [] b.1 in
          let size = (alphabet_exactly A).0 (not-false (is_alphabet A) a.0) in
          tree size.0 size.1 (expression_of A s) refl (rw (sym (unless_same s s' c.1)) at g)

  -- The same with words over characters: it accepts a list of labels exactly if their characters spell a word of the text, and the words of
  -- the text are what it accepts, spelt.
  pub compiled_spells : compile_call A s room ≡ passed f → (w : List ℕ) → Accepts (view f) w ↔ SpellsWord A s w
  compiled_spells e w = iff_trans ((compiled_means e).words w) (words_of_spelt A s w)

  pub compiled_spelt :
      compile_call A s room ≡ passed f → (v : List ℕ) → CharacterWordsOf A s v ↔ ((w : List ℕ) × Accepts (view f) w × (characters A w ≡ v))
  compiled_spelt e v =
      let same = (compiled_means e).words in (
        λ h. let k = (all_spelt A s v).0 h in (k.0, (same k.0).1 k.1, k.2),
        λ h. (all_spelt A s v).1 (h.0, (same h.0).0 h.1, h.2),
      )

  -- The other way: what no refusal turns away compiles.
  pub compiles :
      (t : Tree) → first_refusal (text_checks A s) ≡ Ok tt → TextOf A 16 t s → letter_count A t ≤ 127 → length (form_of A t) ≤ room
      → compile_call A s room ≡ passed (form_of A t)
  unfolding compile_call if_passed
  compiles t e x h l =
      ap (λ v. if_passed v (λ s. parsed_form A room (expression_of A s))) (first_all s (text_checks A s) e)
      ∙ ap (parsed_form A room) ((exact A s t).1 x)
      ∙ unless_neither (form_of A t) (ltb 127 (letter_count A t)) (ltb room (length (form_of A t))) Letters FormMemory (le-ltb 127 (letter_count A t) h) (le-ltb room (length (form_of A t)) l)
