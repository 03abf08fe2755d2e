-- The call and the return of `build`: what the call requires holds of a buildable text, and the arrays then tell the automaton of its tree.
use Prim.Native.Nat.{ℕ, zero, suc, ◌-◌, ◌≤◌}
use Rattle.std.specs.Prelude.{◌≡◌, Bool, true, false, ◌||◌, length, get_or, replicate}
use Rattle.std.proofs.Math.Path.{refl, sym, ap}
use Rattle.std.proofs.Common.{◌∙◌}
use mathlib.Core.List.{List, [], ◌∷◌}
use native.Mathlib.Omega.{arith}
use Rattle.lists.proofs.WrittenLaws.{stored_at}
use Rattle.positions_follow.specs.Sets.{member, arc}
use Rattle.regex_tree.specs.Tree.{only, Tree, set}
use Rattle.regex_tree.specs.Letters.{letter_count}
use Rattle.regex_tree.specs.Parse.{m_alternation, parse, whole, expression_of}
use Rattle.positions.specs.Opened.{Opened, labels}
use Rattle.positions.specs.Numbered.{numbered, position_automaton}
use Rattle.positions.proofs.LettersLaws.{opened_letters}
use Rattle.text.specs.Places.{place}
use Rattle.automaton.specs.Arrays.{has, Tells}
use Rattle.regex_bracket.specs.Answers.{is_found}
use Rattle.positions_parts.specs.declared.Built.{Built}
use Rattle.positions_letters.specs.Found.{rest_of, tree_of}
use Rattle.positions_letters.specs.FoundLaws.{not_found, then_first, then_is}
use Rattle.positions_letters.specs.Shows.{Builds}
use Rattle.positions_letters.specs.LettersLaws.{none_marked}
use Rattle.positions_build.specs.Places.{Room, PartAt, tree_at, opened_at, end_at}
use Rattle.positions_build.specs.MadeLaws.{parsed_part}
use Rattle.positions_build.specs.Whole.{tree_of_text, Buildable, BuildsWhole}

-- a new follow relation has no arc
pub no_arc : (n m i j : ℕ) → arc (replicate n (replicate m false)) i j ≡ false
no_arc zero m i j = refl
no_arc (suc n) m zero j = none_marked m j
no_arc (suc n) m (suc i) j = no_arc n m i j

module _ (r : Opened) (e : ℕ) (f g : List (List Bool)) (old new : List ℕ) (x : Built) (b : Builds 0 r e f g old new x) where
  told : (length (labels r) ≤ length old) → ((i j : ℕ) → arc f i j ≡ false) → Tells (position_automaton r) x.nullable new x.first x.last g
  unfolding position_automaton
  told room clear = record { accepted = sym b.shows.nullable; label = label; begins = begins; ends = ends; arc = arcs }
    where
      down : (i : ℕ) → suc i - 1 ≡ i
      down i = omega arith

      label : (j : ℕ) → 1 ≤ j → j ≤ length (labels r) → get_or (labels r) (j - 1) 0 ≡ get_or new (j - 1) 0
      label j low high =
          let z = stored_at 0 (j - 1) b.stored (omega arith) (omega arith) in
          sym z ∙ ap (λ k. get_or new k 0) (omega arith)

      begins : (j : ℕ) → 1 ≤ j → j ≤ length (labels r) → (numbered 1 r).first j ≡ has x.first j
      begins zero low high = absurd (omega arith)
      begins (suc j) low high = sym (b.shows.first j) ∙ ap (member x.first) (sym (down j))

      ends : (i : ℕ) → 1 ≤ i → i ≤ length (labels r) → (position_automaton r).ends i ≡ has x.last i
      ends zero low high = absurd (omega arith)
      ends (suc i) low high = sym (b.shows.last i) ∙ ap (member x.last) (sym (down i))

      arcs :
          (i j : ℕ) → 1 ≤ i → i ≤ length (labels r) → 1 ≤ j → j ≤ length (labels r)
          → (position_automaton r).follow i j ≡ has (get_or g (i - 1) []) j
      arcs zero j low high l h = absurd (omega arith)
      arcs (suc i) zero low high l h = absurd (omega arith)
      arcs (suc i) (suc j) low high l h =
          sym (b.shows.arcs i j ∙ ap (λ t. t || (numbered 1 r).follow (suc i) (suc j)) (clear i j))
          ∙ ap (λ k. arc g k j) (sym (down i)) ∙ ap (arc g (suc i - 1)) (sym (down j))

module _ (A text : List ℕ) where
  whole_tree : (t : Tree) (s : List ℕ) → is_found (whole t s) ≡ true → tree_of (whole t s) ≡ t
  unfolding whole
  whole_tree t [] h = refl
  whole_tree t (b ∷ s) h = not_found h

  whole_end : (t : Tree) (s : List ℕ) → is_found (whole t s) ≡ true → place text s ≡ length text
  unfolding whole
  whole_end t [] h = omega arith
  whole_end t (b ∷ s) h = not_found h

  module _ {marks : List ℕ} {f : List (List Bool)} (o : Buildable A text marks f) where
    pub text_found : PartAt A text m_alternation 16 0
    unfolding expression_of
    text_found = then_first whole (parse A m_alternation 16 text) o.parses

    same_tree : tree_of_text A text ≡ tree_at A text m_alternation 16 0
    unfolding expression_of
    same_tree =
        let x = parse A m_alternation 16 text in
        let e = then_is whole (set (only [])) x text_found in
        ap tree_of e ∙ whole_tree (tree_of x) (rest_of x) (ap is_found (sym e) ∙ o.parses)

    all_parsed : end_at A text m_alternation 16 0 ≡ length text
    unfolding expression_of
    all_parsed =
        let x = parse A m_alternation 16 text in
        let e = then_is whole (set (only [])) x text_found in
        whole_end (tree_of x) (rest_of x) (ap is_found (sym e) ∙ o.parses)

    all_letters : length (labels (opened_at A text m_alternation 16 0)) ≡ letter_count A (tree_of_text A text)
    all_letters =
        opened_letters A (tree_at A text m_alternation 16 0) (parsed_part A text m_alternation 16 0 text_found).sense
        ∙ ap (letter_count A) (sym same_tree)

    pub text_room : Room A (opened_at A text m_alternation 16 0) 0 marks f
    text_room =
        let l = all_letters in
        let k = o.few in
        record { alphabet = o.alphabet; few = omega arith; labelled = o.labelled; followers = o.followers }

    pub build_returns :
        {g : List (List Bool)} {new : List ℕ} {x : Built}
        → Builds 0 (opened_at A text m_alternation 16 0) (end_at A text m_alternation 16 0) f g marks new x → BuildsWhole A text marks new f g x
    build_returns {g} {new} {x} b =
        let l = all_letters in
        let k = o.few in
        let w = o.labelled in
        let n = b.stored.next in
        record {
          ends = b.ends ∙ all_parsed;
          counts = omega arith;
          stored = rw same_tree b.stored;
          shows = rw same_tree b.shows;
          tells = rw same_tree (told (opened_at A text m_alternation 16 0) (end_at A text m_alternation 16 0) f g marks new x b (omega arith) o.clear);
        }
