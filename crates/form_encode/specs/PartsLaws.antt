-- The head, letters and arcs that are written from arrays are the form of each automaton that the arrays tell.
use Prim.Native.Nat.{ℕ, zero, suc, ◌-◌, ◌≤◌}
use Rattle.std.specs.Prelude.{◌≡◌, refl, Bool, false, ◌&&◌, leb}
use Rattle.std.proofs.Common.{sym, ◌∙◌, arith, le-leb}
use Rattle.std.proofs.Math.Path.{ap, ap₂}
use mathlib.Core.List.{List, [], ◌∷◌, ◌++◌, map}
use Rattle.std.proofs.Math.ListN.{get_or}
use Rattle.lists.specs.Lists.{in_range, numbers}
use Rattle.lists.proofs.AmongLaws.{keep_same, map_same, flat_same}
use Rattle.lists.proofs.AscendingLaws.{numbers_among}
use Rattle.lists.proofs.RemainingLoops.{from, from_first}
use Rattle.automaton.specs.Automaton.{Automaton}
use Rattle.automaton.specs.Form.{head_word, letter_word, arc_word, letter_of, arcs_from, encode}
use Rattle.form_encode_arcs.specs.Arcs.{letter_arcs, letter_arcs_at, arcs_by}
use Rattle.automaton.specs.Arrays.{has, arrayed, Tells}
use Rattle.form_encode.specs.Parts.{letter_by, letters_by}

pub letters_first : (l : ℕ) (labels : List ℕ) (first last : List Bool) → letters_by l labels first last ≡ map (letter_by labels first last) (from l 1)
unfolding letters_by
letters_first l labels first last = ap (map (letter_by labels first last)) (sym (from_first l))

module _ (empty : Bool) (labels : List ℕ) (first last : List Bool) (follow : List (List Bool)) where
  -- the form of an automaton that the arrays tell
  module _ (A : Automaton) (tells : Tells A empty labels first last follow) where
    letter_is : (j : ℕ) → 1 ≤ j → j ≤ A.letters → letter_of A j ≡ letter_by labels first last j
    letter_is j low high =
        ap (λ x. letter_word x (A.follow 0 j) (A.ends j)) (tells.label j low high)
        ∙ ap₂ (letter_word (get_or labels (j - 1) 0)) (tells.begins j low high) (tells.ends j low high)

    letter_arcs_is : (i : ℕ) → 1 ≤ i → i ≤ A.letters → arcs_from A i ≡ letter_arcs_at A.letters follow i
    unfolding letter_arcs
    letter_arcs_is i low high =
        ap (map (arc_word i))
        (keep_same (A.follow i) (has (get_or follow (i - 1) [])) (numbers 1 A.letters) (λ j m.
        let r = numbers_among 1 A.letters j m in
        tells.arc i j low high r.0 (omega arith)))

    told_words : (k : ℕ) → encode k A ≡ head_word A.letters empty k ∷ (letters_by A.letters labels first last ++ arcs_by A.letters follow)
    unfolding encode letters_by arcs_by
    told_words k =
        ap₂ ◌∷◌
        (ap (λ e. head_word A.letters e k) tells.accepted)
        (ap₂ ◌++◌
        (map_same (letter_of A) (letter_by labels first last) (numbers 1 A.letters) (λ j m.
        let r = numbers_among 1 A.letters j m in
        letter_is j r.0 (omega arith)))
        (flat_same (arcs_from A) (letter_arcs_at A.letters follow) (numbers 1 A.letters) (λ i m.
        let r = numbers_among 1 A.letters i m in
        letter_arcs_is i r.0 (omega arith))))

  -- the arrays tell the automaton that they stand for
  module _ (l : ℕ) where
    inside : (i j : ℕ) (b : Bool) → i ≤ l → 1 ≤ j → j ≤ l → (leb i l && in_range 1 l j && b) ≡ b
    inside i j b g low high = rw (le-leb i l g, le-leb 1 j low, le-leb j l high)

    arrayed_tells : Tells (arrayed l empty labels first last follow) empty labels first last follow
    unfolding arrayed
    arrayed_tells =
        record {
          accepted = ap (λ t. t && empty) (le-leb 0 l (omega arith));
          label = λ j low high. refl;
          begins = λ j low high. inside 0 j (has first j) (omega arith) low high;
          ends = ends;
          arc = arc;
        }
      where
        ends : (i : ℕ) → 1 ≤ i → i ≤ l → (leb i l && get_or (empty ∷ last) i false) ≡ has last i
        ends zero low high = absurd (omega arith)
        ends (suc i) low high = ap (λ t. t && get_or last i false) (le-leb (suc i) l high) ∙ ap (λ n. get_or last n false) (omega arith)

        arc :
            (i j : ℕ) → 1 ≤ i → i ≤ l → 1 ≤ j → j ≤ l
            → (leb i l && in_range 1 l j && has (get_or (first ∷ follow) i []) j) ≡ has (get_or follow (i - 1) []) j
        arc zero j s g low high = absurd (omega arith)
        arc (suc i) j s g low high = inside (suc i) j (has (get_or follow i []) j) g low high ∙ ap (λ n. has (get_or follow n []) j) (omega arith)

    pub arrayed_words : (k : ℕ) → encode k (arrayed l empty labels first last follow) ≡ head_word l empty k ∷ (letters_by l labels first last ++ arcs_by l follow)
    unfolding arrayed
    arrayed_words k = told_words (arrayed l empty labels first last follow) arrayed_tells k

  -- so what is written from the arrays is the form of each automaton that they tell
  pub told_form : (k : ℕ) (A : Automaton) → Tells A empty labels first last follow → encode k (arrayed A.letters empty labels first last follow) ≡ encode k A
  told_form k A tells = arrayed_words A.letters k ∙ sym (told_words A tells k)
