-- The set at a place of a text, by its first byte: its end, its members, its labels.
use Rattle.std.proofs.Math.Path.{◌≡◌, sym, ap, ap₂}
use Rattle.std.specs.Prelude.{refl, List, [], ◌∷◌, Bool, true, false, ◌&&◌, ◌⊎◌, ℕ, ◌+◌, ◌≤◌, ◌<◌, get_or, drop, eqb, leb, count_by}
use Rattle.std.proofs.Common.{◌∙◌, inl, inr, eq-eqb, ne_eqb, eqb-true, le-leb, leb-true}
use Rattle.std.proofs.Math.Bool.{cond, or-false}
use Prim.Native.Char.{code}
use native.Mathlib.Omega.{arith}
use Rattle.std.proofs.Math.ListN.{length}
use Rattle.lists.proofs.EachLaws.{drop_here, drop_all}
use Rattle.lists.proofs.OrderLaws.{lt_or_le, not_both, same_truth, and_left, and_right, and_both}
use Rattle.refusal.specs.declared.Refusal.{Refusal}
use Rattle.refusal.specs.declared.Refusal.TheVariants as refusal
use Rattle.regex_tree.specs.Tree.{Set, except, Tree, set, member}
use Rattle.regex_tree.specs.Parsing.{Parsing, found, fault, then}
use Rattle.std.proofs.lemmas.List.Sums.{sum_by_from}
use Rattle.lists.specs.Cases.{first_of}
use Rattle.regex_tree.specs.Letters.{labels_of, letter_count}
use Rattle.regex_tree.specs.Few.{few}
use Rattle.regex_tree.specs.Sets.{special, alone, escaped, bracket, a_set, labelled_set}
use Rattle.text.proofs.TextLaws.{place_drop, byte_within}
use Rattle.text.specs.Places.{place}
use Rattle.lists.proofs.CasesLaws.{fourth}
use Rattle.std.specs.Prelude.{Result, Ok, Err}
use Rattle.regex_bracket.specs.Answers.{end_of, is_found, set_of, bracket_at}
use Rattle.regex_set.specs.Answers.{part, part_of, set_tree, SetAt, set_at}

-- the set of one byte has that byte alone
member_alone : (b x : ℕ) → eqb b x ≡ member (alone b) x
member_alone b x = same_truth (eqb b x) (leb b x && leb x b) forth back ∙ sym (or-false (leb b x && leb x b))
  where
    forth : eqb b x ≡ true → (leb b x && leb x b) ≡ true
    forth e = let q = eqb-true b x e in and_both (leb b x) (leb x b) (le-leb b x (omega arith)) (le-leb x b (omega arith))

    back : (leb b x && leb x b) ≡ true → eqb b x ≡ true
    back e =
        let l = leb-true b x (and_left (leb b x) (leb x b) e) in
        let g = leb-true x b (and_right (leb b x) (leb x b) e) in
        eq-eqb b x (omega arith)

module _ (text : List ℕ) (at : ℕ) where
  abbrev here : ℕ
  here = get_or text at 0

  abbrev back : List ℕ
  back = drop (at + 1) text

  set_empty : length text ≤ at → a_set (drop at text) ≡ fault refusal.MisplacedSign []
  unfolding a_set
  set_empty l = rw (drop_all text at l, a_set)

  -- where there is a set, there is a byte
  pub set_within : SetAt text at → at < length text
  set_within h = by (lt_or_le at (length text))
    where
      by : (at < length text) ⊎ (length text ≤ at) → at < length text
      by (inl l) = l
      by (inr l) = let z : ◌≡◌ {A = Bool} false true = sym (ap is_found (set_empty l)) ∙ h in absurd (not_both true refl (sym z))

  -- By the first byte.
  module _ (l : at < length text) where
    set_escaped : here ≡ code "\\" → a_set (drop at text) ≡ escaped (drop at text) back
    unfolding a_set first_of
    set_escaped e = rw (drop_here 0 text at l, e)

    set_dot : here ≡ code "." → a_set (drop at text) ≡ found (except []) back
    unfolding a_set first_of
    set_dot e = rw (drop_here 0 text at l, e)

    set_bracket : here ≡ code "[" → a_set (drop at text) ≡ bracket (drop at text) back
    unfolding a_set first_of
    set_bracket e = rw (drop_here 0 text at l, e)

    module _ (no_escape : here ≡ code "\\" → ⊥) (no_dot : here ≡ code "." → ⊥) (no_bracket : here ≡ code "[" → ⊥) where
      plain : a_set (drop at text) ≡ cond (special here) (fault refusal.MisplacedSign (here ∷ back)) (found (alone here) back)
      unfolding a_set
      plain =
          ap a_set (drop_here 0 text at l)
          ∙ fourth (eqb here (code "\\")) (eqb here (code ".")) (eqb here (code "[")) (special here) _ _ _ _ _ (ne_eqb here (code "\\") no_escape)
          (ne_eqb here (code ".") no_dot) (ne_eqb here (code "[") no_bracket)

      set_special : special here ≡ true → a_set (drop at text) ≡ fault refusal.MisplacedSign (here ∷ back)
      set_special e = plain ∙ ap (λ t. cond t (fault refusal.MisplacedSign (here ∷ back)) (found (alone here) back)) e

      set_alone : special here ≡ false → a_set (drop at text) ≡ found (alone here) back
      set_alone e = plain ∙ ap (λ t. cond t (fault refusal.MisplacedSign (here ∷ back)) (found (alone here) back)) e

  escaped_special : (w : List ℕ) → special here ≡ true → escaped w (drop at text) ≡ found (alone here) back
  unfolding escaped
  escaped_special w e = let l = byte_within text at (λ z. not_both (special here) e (ap special z)) in rw (drop_here 0 text at l, escaped, e)

  escaped_plain : (w : List ℕ) → special here ≡ false → escaped w (drop at text) ≡ fault refusal.MisplacedSign w
  unfolding escaped
  escaped_plain w e = by (lt_or_le at (length text))
    where
      by : (at < length text) ⊎ (length text ≤ at) → escaped w (drop at text) ≡ fault refusal.MisplacedSign w
      by (inl l) = rw (drop_here 0 text at l, escaped, e)
      by (inr l) = rw (drop_all text at l, escaped)

-- Where the set ends.
module _ (text : List ℕ) (at : ℕ) where
  -- a set that is one byte long ends after that byte
  one_byte : at < length text → ◌≡◌ {A = Result ℕ Refusal} (Ok (at + 1)) (Ok (place text (drop (at + 1) text)))
  one_byte l = ap Ok (sym (place_drop text (at + 1) (omega arith)))

  pub end_none : length text ≤ at → Err refusal.MisplacedSign ≡ end_of text (a_set (drop at text))
  end_none l = sym (ap (end_of text) (set_empty text at l))

  pub escape_ends : (w : List ℕ) → at < length text → special (get_or text (at + 1) 0) ≡ true → Ok (at + 2) ≡ end_of text (escaped w (drop (at + 1) text))
  escape_ends w l e =
      let k = byte_within text (at + 1) (λ z. not_both (special (get_or text (at + 1) 0)) e (ap special z)) in
      let p : place text (drop (at + 1 + 1) text) ≡ at + 2 = place_drop text (at + 1 + 1) (omega arith) ∙ omega arith in
      sym (ap (end_of text) (escaped_special text (at + 1) w e) ∙ ap Ok p)

  pub escape_refused : (w : List ℕ) → special (get_or text (at + 1) 0) ≡ false → Err refusal.MisplacedSign ≡ end_of text (escaped w (drop (at + 1) text))
  escape_refused w e = sym (ap (end_of text) (escaped_plain text (at + 1) w e))

  module _ (l : at < length text) where
    pub end_escape :
        get_or text at 0 ≡ code "\\" → end_of text (escaped (drop at text) (drop (at + 1) text)) ≡ end_of text (a_set (drop at text))
    end_escape e = sym (ap (end_of text) (set_escaped text at l e))

    pub end_dot : get_or text at 0 ≡ code "." → Ok (at + 1) ≡ end_of text (a_set (drop at text))
    end_dot e = one_byte l ∙ sym (ap (end_of text) (set_dot text at l e))

    pub end_bracket : get_or text at 0 ≡ code "[" → end_of text (bracket_at text at) ≡ end_of text (a_set (drop at text))
    end_bracket e = sym (ap (end_of text) (set_bracket text at l e))

    module _ (a : get_or text at 0 ≡ code "\\" → ⊥) (b : get_or text at 0 ≡ code "." → ⊥) (c : get_or text at 0 ≡ code "[" → ⊥) where
      pub end_special : special (get_or text at 0) ≡ true → Err refusal.MisplacedSign ≡ end_of text (a_set (drop at text))
      end_special e = sym (ap (end_of text) (set_special text at l a b c e))

      pub end_alone : special (get_or text at 0) ≡ false → Ok (at + 1) ≡ end_of text (a_set (drop at text))
      end_alone e = one_byte l ∙ sym (ap (end_of text) (set_alone text at l a b c e))

-- Its members, where it is well formed.
module _ (text : List ℕ) (at : ℕ) (h : SetAt text at) (x : ℕ) where
  pub member_escape : get_or text at 0 ≡ code "\\" → eqb (get_or text (at + 1) 0) x ≡ member (set_at text at) x
  member_escape e = by (special (get_or text (at + 1) 0)) refl
    where
      q : a_set (drop at text) ≡ escaped (drop at text) (drop (at + 1) text)
      q = set_escaped text at (set_within text at h) e

      by : (t : Bool) → special (get_or text (at + 1) 0) ≡ t → eqb (get_or text (at + 1) 0) x ≡ member (set_at text at) x
      by true k = member_alone (get_or text (at + 1) 0) x ∙ sym (ap (λ y. member (set_of y) x) (q ∙ escaped_special text (at + 1) (drop at text) k))
      by false k = absurd (not_both true refl (sym h ∙ ap is_found (q ∙ escaped_plain text (at + 1) (drop at text) k)))

  pub member_dot : get_or text at 0 ≡ code "." → true ≡ member (set_at text at) x
  member_dot e = sym (ap (λ y. member (set_of y) x) (set_dot text at (set_within text at h) e))

  module _ (e : get_or text at 0 ≡ code "[") where
    pub bracket_found : is_found (bracket_at text at) ≡ true
    bracket_found = ap is_found (sym (set_bracket text at (set_within text at h) e)) ∙ h

    pub member_bracket : member (set_of (bracket_at text at)) x ≡ member (set_at text at) x
    member_bracket = sym (ap (λ y. member (set_of y) x) (set_bracket text at (set_within text at h) e))

  pub member_byte :
      (get_or text at 0 ≡ code "\\" → ⊥) → (get_or text at 0 ≡ code "." → ⊥) → (get_or text at 0 ≡ code "[" → ⊥) →
      eqb (get_or text at 0) x ≡ member (set_at text at) x
  member_byte a b c = by (special (get_or text at 0)) refl
    where
      by : (t : Bool) → special (get_or text at 0) ≡ t → eqb (get_or text at 0) x ≡ member (set_at text at) x
      by true k = absurd (not_both true refl (sym h ∙ ap is_found (set_special text at (set_within text at h) a b c k)))
      by false k = member_alone (get_or text at 0) x ∙ sym (ap (λ y. member (set_of y) x) (set_alone text at (set_within text at h) a b c k))

-- Its labels, counted through the alphabet.
pub labels_none : (A : List ℕ) (c : Set) → 0 + labels_of A c ≡ labels_of A c
labels_none A c = omega arith

module _ (A : List ℕ) (c : Set) (i n : ℕ) where
  pub labels_more :
      i < length A → n + labels_of (drop i A) c ≡ labels_of A c →
      n + cond (member c (get_or A i 0)) 1 0 + labels_of (drop (i + 1) A) c ≡ labels_of A c
  unfolding labels_of
  labels_more l h =
      let e : labels_of (drop i A) c ≡ cond (member c (get_or A i 0)) 1 0 + labels_of (drop (i + 1) A) c = ap (λ s. labels_of s c) (drop_here 0 A i l) in
      omega arith

  pub labels_end : length A ≤ i → n + labels_of (drop i A) c ≡ labels_of A c → n ≡ labels_of A c
  unfolding labels_of
  labels_end l h = let e : labels_of (drop i A) c ≡ 0 = ap (λ s. labels_of s c) (drop_all A i l) in omega arith

-- Its labels, counted by a test.
pub labels_counted : (A : List ℕ) (c : Set) → count_by (λ b. member c b) A ≡ labels_of A c
unfolding labels_of
labels_counted [] c = refl
labels_counted (b ∷ A) c = let h = labels_counted A c in omega (arith, sum_by_from (λ b. cond (member c b) 1 0) (0 + cond (member c b) 1 0) A)

-- The set as a part of the text.
module _ (A text s : List ℕ) where
  -- what the set that was found gives: a refusal if it has no label, or its tree
  abbrev judged : Bool → Set → List ℕ → Parsing Set
  judged t c r = elim t [ true ↦ fault refusal.Foreign s | false ↦ found c r ]

  abbrev made : Parsing Set → Parsing Tree
  made x = then (then x (λ c r. judged (eqb (labels_of A c) 0) c r)) (λ c r. found (set c) r)

  pub ends_set : (e : ℕ) → Ok e ≡ end_of text (a_set s) → is_found (a_set s) ≡ true
  ends_set e h = by (a_set s) h
    where
      by : (x : Parsing Set) → Ok e ≡ end_of text x → is_found x ≡ true
      by (found c r) h = refl
      by (fault n r) h = let z : ◌≡◌ {A = ℕ} 0 1 = cc in absurd (omega arith)

  pub part_refused : (n : Refusal) → Err n ≡ end_of text (a_set s) → Err n ≡ part_of A text (set_tree A s)
  unfolding labelled_set then
  part_refused n h = by (a_set s) h
    where
      by : (x : Parsing Set) → Err n ≡ end_of text x → Err n ≡ part_of A text (made x)
      by (found c r) h = let z : ◌≡◌ {A = ℕ} 0 1 = cc in absurd (omega arith)
      by (fault m r) h = let k : n ≡ m = cc in ap Err k

  module _ (e n : ℕ) (h : Ok e ≡ end_of text (a_set s)) (k : n ≡ labels_of A (set_of (a_set s))) where
    pub part_foreign : n ≡ 0 → Err refusal.Foreign ≡ part_of A text (set_tree A s)
    unfolding labelled_set then
    part_foreign z = by (a_set s) h k
      where
        by : (x : Parsing Set) → Ok e ≡ end_of text x → n ≡ labels_of A (set_of x) → Err refusal.Foreign ≡ part_of A text (made x)
        by (found c r) h k = sym (ap (λ t. part_of A text (then (judged t c r) (λ c r. found (set c) r))) (eq-eqb (labels_of A c) 0 (omega arith)))
        by (fault m r) h k = let z : ◌≡◌ {A = ℕ} 0 1 = cc in absurd (omega arith)

    pub part_labels : (n ≡ 0 → ⊥) → Ok (part e (few n)) ≡ part_of A text (set_tree A s)
    unfolding labelled_set then letter_count
    part_labels z = by (a_set s) h k
      where
        by : (x : Parsing Set) → Ok e ≡ end_of text x → n ≡ labels_of A (set_of x) → Ok (part e (few n)) ≡ part_of A text (made x)
        by (found c r) h k =
            let q : e ≡ place text r = cc in
            ap₂ (λ i j. Ok (part i (few j))) q k
            ∙ sym (ap (λ t. part_of A text (then (judged t c r) (λ c r. found (set c) r))) (ne_eqb (labels_of A c) 0 (λ y. z (k ∙ y))))
        by (fault m r) h k = let z : ◌≡◌ {A = ℕ} 0 1 = cc in absurd (omega arith)
