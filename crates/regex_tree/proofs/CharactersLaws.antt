-- A list of labels is a word exactly if each is a label of the alphabet and their characters spell a word, and each word over characters is
-- spelt by some labels. So the words over characters do not depend on how often or in which order the alphabet lists its characters.
use Rattle.std.specs.Prelude.{◌≡◌, refl, ◌↔◌, List, [], ◌∷◌, ◌++◌, Bool, true, false, ℕ, zero, suc, ◌-◌, ◌≤◌, eqb}
use Rattle.std.proofs.Common.{sym, ap, ◌∙◌, inl, inr, arith}
use Rattle.std.proofs.lemmas.Bool.{eqb-false}
use Rattle.lists.specs.Each.{Each}
use Rattle.lists.proofs.EachLaws.{each_map}
use Rattle.lists.specs.Lists.{Among}
use Rattle.lists.proofs.AmongLaws.{among_at}
use Rattle.refusal.specs.declared.Refusal.TheVariants as refusal
use Rattle.alphabet.specs.Labels.{Label, character, characters}
use Rattle.alphabet.proofs.LabelsLaws.{labels_for}
use Rattle.regex_tree.specs.Tree.{Set, member, Tree, set, group, times, join, either, Joined, WordsOver, HasLabel, Words}
use Rattle.regex_tree.specs.Letters.{labels_of}
use Rattle.regex_tree.specs.Parsing.{found, fault}
use Rattle.regex_tree.specs.Sets.{a_set, labelled_set}
use Rattle.regex_tree.specs.Grammar.{TextOf, WordsOf}
use Rattle.regex_tree.specs.Characters.{HasCharacter, CharacterWords, CharacterWordsOf, SpellsWord}
use Rattle.regex_tree.proofs.LabelsLaws.{label_word, labelled, set_exactly, OfSome, word_symbols, word_labels}

-- two lists of the same length whose elements are related one by one
abbrev Pairs : (ℕ → ℕ → Type 0) → List ℕ → List ℕ → Type 0
Pairs S [] [] = Unit {0}
Pairs S [] (y ∷ v) = ⊥
Pairs S (x ∷ w) [] = ⊥
Pairs S (x ∷ w) (y ∷ v) = S x y × Pairs S w v

module _ (S : ℕ → ℕ → Type 0) where
  -- what is paired with u and w joined, cut after what is paired with u
  record Parts (u w v : List ℕ) : Type 0 where
    left : List ℕ
    right : List ℕ
    joined : v ≡ left ++ right
    first : Pairs S u left
    second : Pairs S w right

  parts : (u w v : List ℕ) → Pairs S (u ++ w) v → Parts u w v
  parts [] w v h = record { left = []; right = v; joined = refl; first = tt; second = h }
  parts (x ∷ u) w [] h = absurd h
  parts (x ∷ u) w (y ∷ v) h =
      let p = parts u w v h.1 in
      record { left = y ∷ p.left; right = p.right; joined = ap (λ l. y ∷ l) p.joined; first = (h.0, p.first); second = p.second }

  -- Words are carried over if the one-letter words of each set are.
  module _ (Has Has' : Set → ℕ → Type 0) (carry : (c : Set) (x y : ℕ) → Has c x → S x y → Has' c y) where
    carried_joined :
        (W W' : List ℕ → Type 0) → ((w v : List ℕ) → Pairs S w v → W w → W' v) → (k : ℕ) (w v : List ℕ) → Pairs S w v → Joined W k w → Joined W' k v
    carried_joined W W' f zero w [] p h = refl
    carried_joined W W' f zero w (y ∷ v) p h = absurd (rw h at p)
    carried_joined W W' f (suc k) w v p h =
        let q = parts h.0 h.1 v (rw h.2 at p) in
        (q.left, q.right, q.joined, f h.0 q.left q.first h.3, carried_joined W W' f k h.1 q.right q.second h.4)

    carried : (t : Tree) (w v : List ℕ) → Pairs S w v → WordsOver Has t w → WordsOver Has' t v
    carried (set c) w [] p h = absurd (rw h.2 at p)
    carried (set c) w (y ∷ []) p h = let q : Pairs S (h.0 ∷ []) (y ∷ []) = (rw h.2 at p) in (y, carry c h.0 y h.1 q.0, refl)
    carried (set c) w (y ∷ (z ∷ v)) p h = let q : Pairs S (h.0 ∷ []) (y ∷ (z ∷ v)) = (rw h.2 at p) in absurd q.1
    carried (group r) w v p h = carried r w v p h
    carried (times r c) w v p h = (h.0, h.1, carried_joined (WordsOver Has r) (WordsOver Has' r) (carried r) h.0 w v p h.2)
    carried (join r s) w v p h =
        let q = parts h.0 h.1 v (rw h.2 at p) in
        (q.left, q.right, q.joined, carried r h.0 q.left q.first h.3, carried s h.1 q.right q.second h.4)
    carried (either r s) w v p (inl h) = inl (carried r w v p h)
    carried (either r s) w v p (inr h) = inr (carried s w v p h)

module _ (A : List ℕ) where
  paired : (w : List ℕ) → Pairs (λ x b. character A x ≡ b) w (characters A w)
  paired [] = tt
  paired (x ∷ w) = (refl, paired w)

  -- the same, seen from the characters
  spelling : (w : List ℕ) → Each (Label A) w → Pairs (λ b x. Label A x × (character A x ≡ b)) (characters A w) w
  spelling [] l = tt
  spelling (x ∷ w) l = ((l.0, refl), spelling w l.1)

  pub words_spelt : (t : Tree) (w : List ℕ) → Words A t w ↔ (Each (Label A) w × CharacterWords A t (characters A w))
  words_spelt t w = (
    λ h. (word_labels A t w h, carried (λ x b. character A x ≡ b) (HasLabel A) (HasCharacter A) spells t w (characters A w) (paired w) h),
    λ h. carried (λ b x. Label A x × (character A x ≡ b)) (HasCharacter A) (HasLabel A) spelt t (characters A w) w (spelling w h.0) h.1,
  )
    where
      spells : (c : Set) (x b : ℕ) → HasLabel A c x → character A x ≡ b → HasCharacter A c b
      spells c x b h e = let l = h.0.0 in let m = h.0.1 in rw (sym e) (among_at 0 A (x - 1) (omega arith), h.1)

      spelt : (c : Set) (b x : ℕ) → HasCharacter A c b → Label A x × (character A x ≡ b) → HasLabel A c x
      spelt c b x h e = (e.0, ap (member c) e.1 ∙ h.1)

  -- A list of labels is a word of the text exactly if each is a label of the alphabet and their characters spell a word.
  pub words_of_spelt : (s w : List ℕ) → WordsOf A s w ↔ SpellsWord A s w
  words_of_spelt s w = (
    λ h. let k = (words_spelt h.0 w).0 h.2 in (k.0, (h.0, h.1, k.1)),
    λ h. (h.1.0, h.1.1, (words_spelt h.1.0 w).1 (h.0, h.1.2)),
  )

  -- The words over characters are what the words over labels spell, and no others.
  pub all_spelt : (s v : List ℕ) → CharacterWordsOf A s v ↔ ((w : List ℕ) × WordsOf A s w × (characters A w ≡ v))
  all_spelt s v = (
    λ h.
        let listed = each_map (OfSome (HasCharacter A)) (λ b. Among b A) (λ b o. o.1.0) v (word_symbols (HasCharacter A) h.0 v h.2) in
        let r = labels_for A v listed in
        (r.0, (words_of_spelt s r.0).1 (r.1, (rw r.2 h)), r.2),
    λ h. rw (sym h.2) ((words_of_spelt s h.0).0 h.1).1,
  )

-- A set has a label exactly if the alphabet lists one of its characters.
pub label_character : (A : List ℕ) (c : Set) → (1 ≤ labels_of A c) ↔ ((b : ℕ) × HasCharacter A c b)
label_character A c = (λ h. let w = (label_word A c).0 h in spelt w.0 w.1, λ h. (label_word A c).1 (labels h.0 h.1))
  where
    spelt : (w : List ℕ) → Words A (set c) w → (b : ℕ) × HasCharacter A c b
    spelt w h = let k = ((words_spelt A (set c) w).0 h).1 in (k.0, k.1)

    labels : (b : ℕ) → HasCharacter A c b → (w : List ℕ) × Words A (set c) w
    labels b h =
        let r = labels_for A (b ∷ []) (h.0, tt) in
        (r.0, (words_spelt A (set c) r.0).1 (r.1, (b, h, r.2)))

-- Refusal 8 is 'no label at all': a set is foreign exactly if the alphabet lists none of its characters.
pub foreign_exactly :
    (A s : List ℕ) (c : Set) (r : List ℕ) → a_set s ≡ found c r
    → (labelled_set A s ≡ fault refusal.Foreign s) ↔ ((b : ℕ) → HasCharacter A c b → ⊥)
foreign_exactly A s c r e = (
  λ h b k. let q = (set_exactly A s c r).1 (e, (label_character A c).1 (b, k)) in let z : ◌≡◌ {A = ℕ} 0 1 = cc in omega arith,
  λ n. by (eqb (labels_of A c) 0) refl n,
)
  where
    by : (t : Bool) → eqb (labels_of A c) 0 ≡ t → ((b : ℕ) → HasCharacter A c b → ⊥) → labelled_set A s ≡ fault refusal.Foreign s
    by true k n = labelled A s c r e ∙ rw k
    by false k n = let m = eqb-false (labels_of A c) 0 k in let b = (label_character A c).0 (omega arith) in absurd (n b.0 b.1)

-- An alphabet that lists the characters of another has all its texts and words.
module _ (A B : List ℕ) (more : (b : ℕ) → Among b A → Among b B) where
  set_text : (c : Set) (s : List ℕ) → labelled_set A s ≡ found c [] → labelled_set B s ≡ found c []
  set_text c s h =
      let k = (set_exactly A s c []).0 h in
      let b = (label_character A c).0 k.1 in
      (set_exactly B s c []).1 (k.0, (label_character B c).1 (b.0, (more b.0 b.1.0, b.1.1)))

  more_text : (t : Tree) (d : ℕ) (s : List ℕ) → TextOf A d t s → TextOf B d t s
  more_text (set c) d s h = set_text c s h
  more_text (group r) zero s h = absurd h
  more_text (group r) (suc d) s h = (h.0, h.1, more_text r d h.0 h.2)
  more_text (times r c) d s h = (h.0, h.1, h.2, more_text r d h.0 h.3, h.4, h.5)
  more_text (join r t) d s h = (h.0, h.1, h.2, more_text r d h.0 h.3, h.4, more_text t d h.1 h.5, h.6)
  more_text (either r t) d s h = (h.0, h.1, h.2, more_text r d h.0 h.3, h.4, more_text t d h.1 h.5)

  alike : (v : List ℕ) → Pairs (λ b d. b ≡ d) v v
  alike [] = tt
  alike (b ∷ v) = (refl, alike v)

  pub more_words : (s v : List ℕ) → CharacterWordsOf A s v → CharacterWordsOf B s v
  more_words s v h =
      (h.0, more_text h.0 16 s h.1, carried (λ b d. b ≡ d) (HasCharacter A) (HasCharacter B) listed h.0 v v (alike v) h.2)
    where
      listed : (c : Set) (b d : ℕ) → HasCharacter A c b → b ≡ d → HasCharacter B c d
      listed c b d h e = rw (sym e) (more b h.0, h.1)

-- How often and in which order an alphabet lists its characters makes no difference to the words of a text.
pub same_words :
    (A B : List ℕ) → ((b : ℕ) → Among b A ↔ Among b B) → (s v : List ℕ) → CharacterWordsOf A s v ↔ CharacterWordsOf B s v
same_words A B same s v = (more_words A B (λ b. (same b).0) s v, more_words B A (λ b. (same b).1) s v)
