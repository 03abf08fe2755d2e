-- What one iteration of each loop of this crate does, and what the whole loop gives.
use Rattle.std.specs.Prelude.{ℕ, ◌+◌, ◌-◌, ◌<◌, ◌≤◌, ◌≡◌, Bool, cond, ◌&&◌, ◌||◌, List, [], ◌∷◌, length, get_or, eqb}
use Rattle.std.proofs.Math.Path.{refl, sym}
use Rattle.std.proofs.Common.{ap, subst, ◌∙◌, arith, eq-eqb, ne_eqb}
use Rattle.std.proofs.Math.Bool.{true, false}
use Rattle.lists.specs.Lists.{keeping}
use Rattle.lists.proofs.AmongLaws.{keeping_length}
use Rattle.alphabet.specs.Labels.{character, labels_of_character}
use Rattle.alphabet.proofs.LabelsLaws.{labels_from, labels_first, labels_here, labels_past}
use Rattle.wordlist_build.specs.declared.Trie.{Trie}
use Rattle.wordlist_build.specs.Arrays.{Roomy, leads_on, pushed, pushes, if_label}
use Rattle.wordlist_build.specs.ArraysLaws.{roomy_pushes, letters_pushes}

-- the two tests of `same_pair`
pub pair_other : (a b c d : ℕ) → (a ≡ c → ⊥) → false ≡ (eqb a c && eqb b d)
pair_other a b c d n = rw (ne_eqb a c n)

pub pair_same : (a b c d : ℕ) → a ≡ c → eqb b d ≡ (eqb a c && eqb b d)
pair_same a b c d e = rw (eq-eqb a c e)

module _ (A : List ℕ) (c : ℕ) where
  -- the two tests of `push_if`
  pub is_label : (x : ℕ) → character A x ≡ c → if_label A c x ≡ x ∷ []
  is_label x e = rw (eq-eqb (character A x) c e)

  no_label : (x : ℕ) → (character A x ≡ c → ⊥) → if_label A c x ≡ []
  no_label x e = rw (ne_eqb (character A x) c e)

  pub pushed_label : (t : Trie) (head x : ℕ) → character A x ≡ c → pushed t c head x ≡ pushes t c head (if_label A c x)
  unfolding pushes
  pushed_label t head x e = sym (ap (pushes t c head) (is_label x e))

  pub pushed_none : (t : Trie) (head x : ℕ) → (character A x ≡ c → ⊥) → t ≡ pushes t c head (if_label A c x)
  unfolding pushes
  pushed_none t head x e = sym (ap (pushes t c head) (no_label x e))

  -- The loop of `push_all` at x: the letters of the labels before x are in r, and those from x on make the whole.
  pub record Pushing (t : Trie) (head x : ℕ) (r : Trie) : Type 0 where
    pub roomy : Roomy r
    pub fits : r.letters + length (labels_from A c x) ≤ 127
    pub makes : pushes r c head (labels_from A c x) ≡ pushes t c head (labels_of_character A c)

  pub pushing_none : (t : Trie) (head : ℕ) → Roomy t → t.letters + length (labels_of_character A c) ≤ 127 → Pushing t head 1 t
  pushing_none t head r f =
      record { roomy = r; fits = subst (λ l. t.letters + length l ≤ 127) (sym (labels_first A c)) f; makes = ap (pushes t c head) (labels_first A c) }

  module _ (t : Trie) (head x : ℕ) (r : Trie) (inside : x ≤ length A) (p : Pushing t head x r) where
    sizes : (length (labels_from A c x) ≡ cond (eqb (character A x) c) 1 0 + length (labels_from A c (x + 1))) × (length (if_label A c x) ≡ cond (eqb (character A x) c) 1 0)
    sizes =
        let one = keeping_length (eqb (character A x) c) x [] in
        (ap length (labels_here A c x inside) ∙ keeping_length (eqb (character A x) c) x (labels_from A c (x + 1)), one ∙ omega arith)

    pub pushing_room : r.letters + length (if_label A c x) ≤ 127
    pushing_room = let s = sizes.0 in let q = sizes.1 in let f = p.fits in omega arith

    apart : (b : Bool) (rest : List ℕ) → pushes r c head (keeping b x rest) ≡ pushes (pushes r c head (keeping b x [])) c head rest
    unfolding pushes
    apart true rest = refl
    apart false rest = refl

    pub pushing_more : (next : Trie) → next ≡ pushes r c head (if_label A c x) → Pushing t head (x + 1) next
    pushing_more next e =
        let s = sizes.0 in
        let q = sizes.1 in
        let f = p.fits in
        let g = letters_pushes r c head (if_label A c x) in
        subst (Pushing t head (x + 1)) (sym e)
        (record {
          roomy = roomy_pushes r c head (if_label A c x) p.roomy;
          fits = omega arith;
          makes = sym (apart (eqb (character A x) c) (labels_from A c (x + 1))) ∙ ap (pushes r c head) (sym (labels_here A c x inside)) ∙ p.makes;
        })

  pub pushing_end : (t : Trie) (head x : ℕ) (r : Trie) → length A < x → Pushing t head x r → r ≡ pushes t c head (labels_of_character A c)
  unfolding pushes
  pushing_end t head x r h p = sym (ap (pushes r c head) (labels_past A c x h)) ∙ p.makes

-- The loop of `mark_ends`: what it stores at each index.
abbrev pub Mark : (heads : List ℕ) (last : List Bool) (head i : ℕ) → Bool → Type 0
Mark heads last head i v = v ≡ (get_or last i false || eqb (get_or heads i 0) head)

-- the arrays with other marks
abbrev pub marked_with : Trie → List Bool → Trie
marked_with t marks = record {
  letters = t.letters;
  at = t.at;
  labels = t.labels;
  characters = t.characters;
  parents = t.parents;
  heads = t.heads;
  last = marks;
}

-- The two tests of `next_letter` at the index of a letter.
module _ (t : Trie) (c i : ℕ) where
  index : i + 1 - 1 ≡ i
  index = omega arith

  leads_at : leads_on t c (i + 1) ≡ (eqb (get_or t.parents i 0) t.at && eqb (get_or t.characters i 0) c)
  leads_at = ap (λ k. eqb (get_or t.parents k 0) t.at && eqb (get_or t.characters k 0) c) index

  pub leads_here : get_or t.parents i 0 ≡ t.at → get_or t.characters i 0 ≡ c → leads_on t c (i + 1) ≡ true
  leads_here p q = leads_at ∙ rw (eq-eqb (get_or t.parents i 0) t.at p, eq-eqb (get_or t.characters i 0) c q)

  pub leads_elsewhere : (get_or t.parents i 0 ≡ t.at → ⊥) → leads_on t c (i + 1) ≡ false
  leads_elsewhere n = leads_at ∙ rw (ne_eqb (get_or t.parents i 0) t.at n)

  pub leads_otherwise : get_or t.parents i 0 ≡ t.at → (get_or t.characters i 0 ≡ c → ⊥) → leads_on t c (i + 1) ≡ false
  leads_otherwise p n = leads_at ∙ rw (eq-eqb (get_or t.parents i 0) t.at p, ne_eqb (get_or t.characters i 0) c n)

-- The steps of `push_all`: a letter more if the character at the index is this one.
module _ (A : List ℕ) (c : ℕ) (t : Trie) (head i : ℕ) (r : Trie) (inside : i < length A) (p : Pushing A c t head (i + 1) r) where
  label_at : get_or A (i + 1 - 1) 0 ≡ get_or A i 0
  label_at = let k : i + 1 - 1 ≡ i = omega arith in ap (λ j. get_or A j 0) k

  pub pushing_fits : get_or A i 0 ≡ c → r.letters < 127
  pushing_fits e =
      let m = pushing_room A c t head (i + 1) r (omega arith) p in
      let n = ap length (is_label A c (i + 1) (label_at ∙ e)) in
      omega arith

  pub pushing_label : (next : Trie) → get_or A i 0 ≡ c → next ≡ pushed r c head (i + 1) → Pushing A c t head (i + 1 + 1) next
  pushing_label next e q =
      pushing_more A c t head (i + 1) r (omega arith) p next (q ∙ pushed_label A c r head (i + 1) (label_at ∙ e))

  pub pushing_other : (get_or A i 0 ≡ c → ⊥) → Pushing A c t head (i + 1 + 1) r
  pushing_other n = pushing_more A c t head (i + 1) r (omega arith) p r (pushed_none A c r head (i + 1) (λ e. n (sym label_at ∙ e)))
