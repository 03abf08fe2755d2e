-- Compile, where refusals 1 to 3 do not apply: what the checking parser's answer says of the text, and what is then filled.
use Rattle.std.specs.Prelude.{ℕ, ◌≤◌, ◌<◌, Bool, false, List, [], ◌∷◌, length, replicate, ltb, Ok, Err}
use Rattle.std.proofs.Math.Path.{◌≡◌, refl, sym, ap}
use Rattle.std.proofs.Common.{◌∙◌, lt-ltb, le-ltb}
use Rattle.std.proofs.Math.Bool.{true}
use native.Mathlib.Omega.{arith}
use Rattle.std.proofs.lemmas.List.{length-replicate}
use Rattle.refusal.specs.declared.Refusal.{Refusal}
use Rattle.refusal.specs.declared.Refusal.TheVariants as refusal
use Rattle.refusal.specs.Verdict.{refused, check, unless, if_passed, first_refusal}
use Rattle.refusal.proofs.VerdictLaws.{unless_holds, unless_fails, first_refused, first_all}
use Rattle.regex_tree.specs.Tree.{Tree}
use Rattle.regex_tree.specs.Parsing.{Parsing, found, fault}
use Rattle.regex_tree.specs.Letters.{letter_count}
use Rattle.regex_tree.proofs.SenseLaws.{sensible}
use Rattle.regex_tree.specs.Few.{few}
use Rattle.regex_tree.proofs.Exact.{exact, expression_whole}
use Rattle.regex_tree.specs.Parse.{expression_of}
use Rattle.positions.specs.Numbered.{automaton_of}
use Rattle.automaton.specs.Form.{encode}
use Rattle.positions.specs.Compiled.{form_of}
use Rattle.positions.proofs.CompiledLaws.{automaton_letters}
use Rattle.regex_bracket.specs.Answers.{is_found}
use Rattle.regex_parse.specs.Parsed.{parsed_of, parsed}
use Rattle.form_encode.specs.Call.{form_call}
use Rattle.automaton.specs.Arrays.{arrayed}
use Rattle.form_encode.specs.PartsLaws.{told_form}
use Rattle.alphabet.specs.Alphabet.{text_checks}
use Rattle.positions_parts.specs.declared.Built.{Built}
use Rattle.positions_letters.specs.Found.{tree_of}
use Rattle.positions_build.specs.Whole.{tree_of_text, Buildable, BuildsWhole}
use Rattle.positions_build.specs.WholeLaws.{no_arc}
use Rattle.compile.specs.Call.{parsed_form, compile_call}
use Rattle.compile.specs.Compilable.{Compilable}

module _ (A s : List ℕ) (room : ℕ) where
  -- the leftmost fault
  pub text_refused : (x : Refusal) → Err x ≡ parsed A s → parsed_form A room (expression_of A s) ≡ refused x
  unfolding parsed
  text_refused x e = by (expression_of A s) e
    where
      by : (y : Parsing Tree) → Err x ≡ parsed_of A y → parsed_form A room y ≡ refused x
      by (found t r) e = let z : ◌≡◌ {A = ℕ} 0 1 = cc in absurd (omega arith)
      by (fault n r) e = let q : n ≡ x = cc in ap refused q

  -- too many letters
  pub text_many : (n : ℕ) → Ok n ≡ parsed A s → 127 < n → parsed_form A room (expression_of A s) ≡ refused refusal.Letters
  unfolding parsed
  text_many n e h = by (expression_of A s) e
    where
      by : (y : Parsing Tree) → Ok n ≡ parsed_of A y → parsed_form A room y ≡ refused refusal.Letters
      by (fault m r) e = let z : ◌≡◌ {A = ℕ} 0 1 = cc in absurd (omega arith)
      by (found t r) e =
          let q : n ≡ few (letter_count A t) = cc in
          unless_holds (form_of A t) (ltb 127 (letter_count A t)) refusal.Letters (check (ltb room (length (form_of A t))) refusal.FormMemory ∷ []) (lt-ltb 127 (letter_count A t) (omega arith))

  -- few enough
  pub text_compilable : (n : ℕ) → Ok n ≡ parsed A s → n ≤ 127 → Compilable A s
  unfolding parsed
  text_compilable n e h = by (expression_of A s) refl e
    where
      by : (y : Parsing Tree) → expression_of A s ≡ y → Ok n ≡ parsed_of A y → Compilable A s
      by (fault m r) g e = let z : ◌≡◌ {A = ℕ} 0 1 = cc in absurd (omega arith)
      by (found t r) g e =
          let q : n ≡ few (letter_count A t) = cc in
          let same : letter_count A (tree_of_text A s) ≡ letter_count A t = ap (λ y. letter_count A (tree_of y)) g in
          record { parses = ap is_found g; within = omega arith }

  -- and then the form
  pub text_form : Compilable A s → parsed_form A room (expression_of A s) ≡ form_call (length A) (automaton_of A (tree_of_text A s)) room
  unfolding form_call
  text_form c = by (expression_of A s) c.parses c.within
    where
      by : (y : Parsing Tree) → is_found y ≡ true → letter_count A (tree_of y) ≤ 127 → parsed_form A room y ≡ form_call (length A) (automaton_of A (tree_of y)) room
      by (fault m r) e h = let z : ◌≡◌ {A = ℕ} 0 1 = cc in absurd (omega arith)
      by (found t r) e h =
          unless_fails (form_of A t) (ltb 127 (letter_count A t)) refusal.Letters (check (ltb room (length (form_of A t))) refusal.FormMemory ∷ []) (le-ltb 127 (letter_count A t) h)

  -- refusals 1 to 3
  pub call_refused : (n : Refusal) → Err n ≡ first_refusal (text_checks A s) → compile_call A s room ≡ refused n
  unfolding compile_call if_passed
  call_refused n e = ap (λ v. if_passed v (λ s. parsed_form A room (expression_of A s))) (first_refused s n (text_checks A s) (sym e))

  pub call_passed : Ok tt ≡ first_refusal (text_checks A s) → compile_call A s room ≡ parsed_form A room (expression_of A s)
  unfolding compile_call if_passed
  call_passed e = ap (λ v. if_passed v (λ s. parsed_form A room (expression_of A s))) (first_all s (text_checks A s) (sym e))

-- Built over cleared arrays.
pub buildable : (A s : List ℕ) → length A ≤ 95 → Compilable A s → Buildable A s (replicate 127 0) (replicate 127 (replicate 127 false))
buildable A s h c =
    record {
      alphabet = omega arith;
      parses = c.parses;
      few = c.within;
      labelled = omega (arith, length-replicate {A = ℕ} 127 0);
      followers = omega (arith, length-replicate 127 (replicate 127 false));
      clear = no_arc 127 127;
    }

module _ (A s : List ℕ) (c : Compilable A s) where
  -- the text's tree
  tree : (r : List ℕ) × (expression_of A s ≡ found (tree_of_text A s) r)
  tree = by (expression_of A s) c.parses refl
    where
      by : (y : Parsing Tree) → is_found y ≡ true → expression_of A s ≡ y → (r : List ℕ) × (expression_of A s ≡ found (tree_of_text A s) r)
      by (fault n r) e g = let z : ◌≡◌ {A = ℕ} 0 1 = cc in absurd (omega arith)
      by (found t r) e g = (r, g ∙ ap (λ x. found x r) (sym (ap tree_of g)))

  letters : (automaton_of A (tree_of_text A s)).letters ≡ letter_count A (tree_of_text A s)
  letters =
      let t = tree_of_text A s in
      let whole : expression_of A s ≡ found t [] = tree.1 ∙ ap (found t) (expression_whole A s t tree.0 tree.1) in
      automaton_letters A t (sensible A t 16 s ((exact A s t).0 whole))

  -- what is written from the arrays is the form of the text's automaton
  pub told_call :
      (room : ℕ) {old new : List ℕ} {before follow : List (List Bool)} {x : Built} → BuildsWhole A s old new before follow x
      → form_call (length A) (arrayed x.letters x.nullable new x.first x.last follow) room ≡ form_call (length A) (automaton_of A (tree_of_text A s)) room
  unfolding form_call
  told_call room {old} {new} {follow} {x} b =
      ap (λ f. unless (check (ltb room (length f)) refusal.FormMemory ∷ []) f)
      (ap (λ n. encode (length A) (arrayed n x.nullable new x.first x.last follow)) (b.counts ∙ sym letters)
      ∙ told_form x.nullable new x.first x.last follow (length A) (automaton_of A (tree_of_text A s)) b.tells)
