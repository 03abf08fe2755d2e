-- The labels of sets and words: a set has a word exactly if it has a label, and is taken only then; a word's labels are those of the
-- alphabet.
use Rattle.std.specs.Prelude.{◌≡◌, refl, ◌↔◌, List, [], ◌∷◌, Bool, true, false, ℕ, zero, suc, ◌+◌, ◌-◌, ◌≤◌, ◌<◌, length, get_or, eqb}
use Rattle.std.proofs.Common.{sym, ap, ◌∙◌, inl, inr, suc-le-suc, arith, le_of_suc-le-suc, ne_eqb}
use Rattle.std.proofs.lemmas.Bool.{eqb-false}
use Rattle.lists.proofs.EachLaws.{each_append, each_map}
use Rattle.lists.specs.Each.{Each}
use Rattle.refusal.specs.declared.Refusal.TheVariants as refusal
use Rattle.alphabet.specs.Labels.{Label}
use Rattle.regex_tree.specs.Tree.{Set, member, Tree, set, group, times, join, either, Joined, WordsOver, HasLabel, Words}
use Rattle.regex_tree.specs.Letters.{labels_of}
use Rattle.regex_tree.specs.Parsing.{Parsing, found, fault, then}
use Rattle.regex_tree.specs.Sets.{a_set, labelled_set}

-- a label of a set, counted from 0
abbrev Place : List ℕ → Set → Type 0
Place A c = (i : ℕ) × (i < length A) × (member c (get_or A i 0) ≡ true)

place_some : (A : List ℕ) (c : Set) (i : ℕ) → i < length A → member c (get_or A i 0) ≡ true → 1 ≤ labels_of A c
unfolding labels_of
place_some [] c i l e = absurd (omega arith)
place_some (b ∷ A) c zero l e = rw e (omega arith)
place_some (b ∷ A) c (suc i) l e = let h = place_some A c i (le_of_suc-le-suc l) e in omega arith

some_place : (A : List ℕ) (c : Set) → 1 ≤ labels_of A c → Place A c
unfolding labels_of
some_place [] c h = absurd (omega arith)
some_place (b ∷ A) c h = by (member c b) refl (λ k. some_place A c k)
  where
    by : (t : Bool) → member c b ≡ t → (1 ≤ labels_of A c → Place A c) → Place (b ∷ A) c
    by true e f = (zero, omega arith, e)
    by false e f = let k : 1 ≤ 0 + labels_of A c = (rw e at h) in let p = f (omega arith) in (suc p.0, suc-le-suc p.1, p.2)

-- A set has a label exactly if it has a word.
pub label_word : (A : List ℕ) (c : Set) → (1 ≤ labels_of A c) ↔ ((w : List ℕ) × Words A (set c) w)
label_word A c =
    (λ h. word (some_place A c h), λ h. let l = h.1.1.0.0 in let m = h.1.1.0.1 in place_some A c (h.1.0 - 1) (omega arith) h.1.1.1)
  where
    word : Place A c → (w : List ℕ) × Words A (set c) w
    word p =
        let e : suc p.0 - 1 ≡ p.0 = omega arith in
        let l = p.1 in
        (suc p.0 ∷ [], (suc p.0, ((omega arith, omega arith), ap (λ (i : ℕ). member c (get_or A i 0)) e ∙ p.2), refl))

-- the answer where a set is at the front of the text
pub labelled : (A s : List ℕ) (c : Set) (r : List ℕ) → a_set s ≡ found c r → labelled_set A s ≡ elim (eqb (labels_of A c) 0) [ true ↦ fault refusal.Foreign s | false ↦ found c r ]
unfolding labelled_set then
labelled A s c r e = rw (e, labelled_set)

-- A set is taken exactly if it is at the front of the text and has a label.
pub set_exactly : (A s : List ℕ) (c : Set) (r : List ℕ) → (labelled_set A s ≡ found c r) ↔ ((a_set s ≡ found c r) × (1 ≤ labels_of A c))
unfolding labelled_set then
set_exactly A s c r = (
  λ h. by (a_set s) refl h,
  λ h. let some = h.1 in labelled A s c r h.0 ∙ rw (ne_eqb (labels_of A c) 0 (λ z. omega arith)),
)
  where
    by : (y : Parsing Set) → a_set s ≡ y → labelled_set A s ≡ found c r → (a_set s ≡ found c r) × (1 ≤ labels_of A c)
    by (fault n r') e h = let q : labelled_set A s ≡ fault n r' = rw (e, labelled_set) in let z : ◌≡◌ {A = ℕ} 0 1 = cc in absurd (omega arith)
    by (found c' r') e h = branch (eqb (labels_of A c') 0) refl (sym (labelled A s c' r' e) ∙ h)
      where
        branch :
            (t : Bool) → eqb (labels_of A c') 0 ≡ t → elim t [ true ↦ fault refusal.Foreign s | false ↦ found c' r' ] ≡ found c r
            → (a_set s ≡ found c r) × (1 ≤ labels_of A c)
        branch true k q = let z : ◌≡◌ {A = ℕ} 0 1 = cc in absurd (omega arith)
        branch false k q =
            let same : c' ≡ c = cc in
            let some : 1 ≤ labels_of A c' = (let n = eqb-false (labels_of A c') 0 k in omega arith) in
            (e ∙ q, rw (sym same) some)

-- What a word consists of, over labels or characters: each is a one-letter word of some set.
module _ (Has : Set → ℕ → Type 0) where
  abbrev pub OfSome : ℕ → Type 0
  OfSome x = (c : Set) × Has c x

  joined_symbols : (W : List ℕ → Type 0) → ((w : List ℕ) → W w → Each OfSome w) → (k : ℕ) (w : List ℕ) → Joined W k w → Each OfSome w
  joined_symbols W f zero w h = rw h tt
  joined_symbols W f (suc k) w h = rw h.2 (each_append OfSome h.0 h.1 (f h.0 h.3) (joined_symbols W f k h.1 h.4))

  pub word_symbols : (t : Tree) (w : List ℕ) → WordsOver Has t w → Each OfSome w
  word_symbols (set c) w h = rw h.2 ((c, h.1), tt)
  word_symbols (group r) w h = word_symbols r w h
  word_symbols (times r c) w h = joined_symbols (WordsOver Has r) (word_symbols r) h.0 w h.2
  word_symbols (join r s) w h = rw h.2 (each_append OfSome h.0 h.1 (word_symbols r h.0 h.3) (word_symbols s h.1 h.4))
  word_symbols (either r s) w (inl h) = word_symbols r w h
  word_symbols (either r s) w (inr h) = word_symbols s w h

pub word_labels : (A : List ℕ) (t : Tree) (w : List ℕ) → Words A t w → Each (Label A) w
word_labels A t w h = each_map (OfSome (HasLabel A)) (Label A) (λ x o. o.1.0) w (word_symbols (HasLabel A) t w h)
