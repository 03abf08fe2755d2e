-- What the parser's answer says of the text: what is before the rest is a text of the tree found, and what is before a fault can be
-- continued to a text of a tree. Laws that put these facts together from those of the parts.
use Rattle.std.proofs.Math.Path.{◌≡◌, refl}
use Rattle.std.proofs.Common.{sym, ap, ◌∙◌, arith, eqb-true, ne_eqb}
use mathlib.Core.List.{List, [], ◌∷◌, ◌++◌, append_assoc, append-nil}
use Rattle.std.specs.Prelude.{Bool, true, false, ℕ, zero, suc, ◌+◌, ◌≤◌, length, eqb}
use Prim.Native.Char.{Char, code}
use Rattle.lists.specs.Each.{Each}
use Rattle.refusal.specs.declared.Refusal.{Refusal}
use Rattle.refusal.specs.declared.Refusal.TheVariants as refusal
use Rattle.text.specs.Bytes.{bytes}
use Rattle.regex_tree.specs.Tree.{Count, Set, except, Tree, set, group, times, join, either}
use Rattle.regex_tree.specs.Letters.{labels_of}
use Rattle.regex_tree.specs.Parsing.{found, fault, then}
use Rattle.text.specs.Text.{one_of, next, rest}
use Rattle.lists.specs.Cases.{first_of}
use Rattle.regex_tree.specs.Sets.{a_set, labelled_set}
use Rattle.regex_tree.specs.Repetition.{repeats, repetition}
use Rattle.regex_tree.specs.Parse.{Mode, m_alternation, m_branch, m_piece, m_group, ends, rank}
use Rattle.regex_tree.specs.Grammar.{loose, TextOf}
use Rattle.regex_tree.proofs.OwnLaws.{next_is, Here}
use Rattle.regex_tree.proofs.OwnSetsLaws.{ASet}
use Rattle.regex_tree.proofs.OwnCountsLaws.{Repeating}
use Rattle.regex_tree.specs.Places.{Begins}

-- the text begins neither with the end of a branch nor with a repetition
abbrev pub Starts : List ℕ → Type 0
Starts s = (ends s ≡ false) × (repeats s ≡ false)

module _ (A : List ℕ) where
  -- no set begins with a byte that is misplaced there
  no_set :
      (b x : ℕ) (s : List ℕ) (c : Set) (r : List ℕ) → labelled_set A (x ∷ s) ≡ fault refusal.MisplacedSign (x ∷ s) →
      labelled_set A (b ∷ s) ≡ found c r → eqb b x ≡ false
  no_set b x s c r k h = by (eqb b x) refl
    where
      by : (t : Bool) → eqb b x ≡ t → t ≡ false
      by true e = let q : b ≡ x = eqb-true b x e in let z : ◌≡◌ {A = ℕ} 0 1 = cc in absurd (omega arith)
      by false e = refl

  no_set_of :
      (cs : List ℕ) (b : ℕ) (s : List ℕ) (c : Set) (r : List ℕ) → Each (λ x. labelled_set A (x ∷ s) ≡ fault refusal.MisplacedSign (x ∷ s)) cs →
      labelled_set A (b ∷ s) ≡ found c r → one_of cs b ≡ false
  no_set_of [] b s c r k h = refl
  no_set_of (x ∷ cs) b s c r k h = rw (no_set b x s c r k.0 h) (no_set_of cs b s c r k.1 h)

  pub set_starts : (s : List ℕ) (c : Set) (r : List ℕ) → labelled_set A s ≡ found c r → (w : List ℕ) → Starts (s ++ w) × (next "(" (s ++ w) ≡ false)
  unfolding labelled_set a_set first_of then
  set_starts [] c r h w = let z : ◌≡◌ {A = ℕ} 0 1 = cc in absurd (omega arith)
  set_starts (b ∷ s) c r h w =
      let no_end = no_set_of (bytes "|)") b s c r (refl, (refl, tt)) h in
      let no_repetition = no_set_of (bytes "*+?{") b s c r (refl, (refl, (refl, (refl, tt)))) h in
      ((no_end, no_repetition), no_set b (code "(") s c r refl h)

  pub text_starts : (t : Tree) (d : ℕ) (s : List ℕ) → TextOf A d t s → (w : List ℕ) → Starts (s ++ w)
  text_starts (set c) d s h w = (set_starts s c [] h w).0
  text_starts (group r) zero s h w = absurd h
  text_starts (group r) (suc d) s h w = rw h.1 (refl, refl)
  text_starts (times r c) d s h w = rw (h.2, append_assoc h.0 h.1 w) (text_starts r d h.0 h.3 (h.1 ++ w))
  text_starts (join r t) d s h w = rw (h.2, append_assoc h.0 h.1 w) (text_starts r d h.0 h.3 (h.1 ++ w))
  text_starts (either r t) d s h w = rw (h.2, append_assoc h.0 (code "|" ∷ h.1) w) (text_starts r d h.0 h.3 ((code "|" ∷ h.1) ++ w))

  -- no tree has the empty text
  pub text_some : (t : Tree) (d : ℕ) (s : List ℕ) → TextOf A d t s → 1 ≤ length s
  text_some t d s h = by s (text_starts t d s h []).0
    where
      by : (s : List ℕ) → ends (s ++ []) ≡ false → 1 ≤ length s
      by [] e = let z : ◌≡◌ {A = ℕ} 0 1 = cc in absurd (omega arith)
      by (b ∷ s) e = omega arith

-- `.` is a text over every alphabet that has a character
dot_labels : (A : List ℕ) → 1 ≤ length A → eqb (labels_of A (except [])) 0 ≡ false
unfolding labels_of
dot_labels [] h = absurd (omega arith)
dot_labels (b ∷ A) h = ne_eqb (1 + labels_of A (except [])) 0 (λ e. omega arith)

pub dot : (A : List ℕ) → 1 ≤ length A → (d : ℕ) → TextOf A d (set (except [])) (code "." ∷ [])
unfolding labelled_set a_set first_of then
dot A h d = rw (dot_labels A h, then)

-- What is found: the text before the rest is a text of the tree, bound as closely as the mode asks.
pub record Front (A : List ℕ) (m : Mode) (d : ℕ) (s : List ℕ) (t : Tree) (r : List ℕ) : Type 0 where
  pub front : List ℕ
  pub splits : s ≡ front ++ r
  pub text : TextOf A d t front
  pub close : loose t ≤ rank m

-- not every text can be: none that begins with `)`
stray : (A : List ℕ) (d : ℕ) (s : List ℕ) → Begins A m_alternation d (code ")" ∷ s) → ⊥
stray A d s b = let e = (text_starts A b.1 d (code ")" ∷ (s ++ b.0)) b.2 []).0 in let z : ◌≡◌ {A = ℕ} 0 1 = cc in omega arith

-- A fault: the text before it can be continued.
pub record Stop (A : List ℕ) (m : Mode) (d : ℕ) (s : List ℕ) (n : Refusal) (r : List ℕ) : Type 0 where
  pub front : List ℕ
  pub splits : s ≡ front ++ r
  pub begins : 1 ≤ length A → Begins A m d front

-- put together: s is u and s₁, s₁ is v and r
cut : (s u s₁ v r : List ℕ) → s ≡ u ++ s₁ → s₁ ≡ v ++ r → s ≡ (u ++ v) ++ r
cut s u s₁ v r e f = e ∙ ap (λ (l : List ℕ). u ++ l) f ∙ sym (append_assoc u v r)

signed : (c : Char) (s v r : List ℕ) → next c s ≡ true → rest s ≡ v ++ r → s ≡ (code c ∷ v) ++ r
signed c s v r k f = next_is c s k ∙ ap (λ (l : List ℕ). code c ∷ l) f

module _ (A : List ℕ) (d : ℕ) where
  pub looser : (m m' : Mode) (s : List ℕ) → rank m ≤ rank m' → (t : Tree) (r : List ℕ) → Front A m d s t r → Front A m' d s t r
  looser m m' s l t r f = record { front = f.front; splits = f.splits; text = f.text; close = let c = f.close in omega arith }

  pub stop_looser : (m m' : Mode) (s : List ℕ) → rank m ≤ rank m' → (n : Refusal) (r : List ℕ) → Stop A m d s n r → Stop A m' d s n r
  stop_looser m m' s l n r f =
      record { front = f.front; splits = f.splits; begins = λ k. let b = f.begins k in (b.0, b.1, b.2, omega (arith, b.3)) }

  pub stop_here : (m : Mode) (s : List ℕ) (n : Refusal) (r : List ℕ) → Here s n r → Stop A m d s n r
  stop_here m s n r h = record { front = []; splits = sym h; begins = λ k. (code "." ∷ [], set (except []), dot A k d, omega arith) }

  module _ (s : List ℕ) (t : Tree) (s₁ : List ℕ) (u : Tree) (r : List ℕ) where
    pub either_front :
        Front A m_branch d s t s₁ → next "|" s₁ ≡ true → Front A m_alternation d (rest s₁) u r → Front A m_alternation d s (either t u) r
    either_front f k g =
        record {
          front = f.front ++ (code "|" ∷ g.front);
          splits = cut s f.front s₁ (code "|" ∷ g.front) r f.splits (signed "|" s₁ g.front r k g.splits);
          text = (f.front, g.front, refl, f.text, f.close, g.text);
          close = omega arith;
        }

    pub join_front : Front A m_piece d s t s₁ → Front A m_branch d s₁ u r → Front A m_branch d s (join t u) r
    join_front f g =
        record {
          front = f.front ++ g.front;
          splits = cut s f.front s₁ g.front r f.splits g.splits;
          text = (f.front, g.front, refl, f.text, omega (arith, f.close), g.text, g.close);
          close = omega arith;
        }

  module _ (s : List ℕ) (t : Tree) (s₁ : List ℕ) (n : Refusal) (r : List ℕ) where
    pub either_stop : Front A m_branch d s t s₁ → next "|" s₁ ≡ true → Stop A m_alternation d (rest s₁) n r → Stop A m_alternation d s n r
    either_stop f k g =
        record {
          front = f.front ++ (code "|" ∷ g.front);
          splits = cut s f.front s₁ (code "|" ∷ g.front) r f.splits (signed "|" s₁ g.front r k g.splits);
          begins = λ a. let b = g.begins a in
              (b.0, either t b.1, (f.front, g.front ++ b.0, append_assoc f.front (code "|" ∷ g.front) b.0, f.text, f.close, b.2), omega arith);
        }

    pub join_stop : Front A m_piece d s t s₁ → Stop A m_branch d s₁ n r → Stop A m_branch d s n r
    join_stop f g =
        record {
          front = f.front ++ g.front;
          splits = cut s f.front s₁ g.front r f.splits g.splits;
          begins = λ a. let b = g.begins a in
              (b.0, join t b.1, (f.front, g.front ++ b.0, append_assoc f.front g.front b.0, f.text, omega (arith, f.close), b.2, b.3), omega arith);
        }

    -- the fault is right after the tree: a bad repetition, a missing `)`, or anything else that may not be there
    pub stop_beyond : (m : Mode) → Front A m d s t s₁ → Here s₁ n r → Stop A m d s n r
    stop_beyond m f h =
        record {
          front = f.front;
          splits = f.splits ∙ ap (λ (l : List ℕ). f.front ++ l) (sym h);
          begins = λ a. ([], t, rw (append-nil f.front) f.text, f.close);
        }

  pub times_front :
      (s : List ℕ) (t : Tree) (s₁ : List ℕ) (c : Count) (r : List ℕ) → Front A m_group d s t s₁ → Repeating s₁ c r →
      Front A m_piece d s (times t c) r
  times_front s t s₁ c r f g =
      record {
        front = f.front ++ g.own;
        splits = cut s f.front s₁ g.own r f.splits g.splits;
        text = (f.front, g.own, refl, f.text, f.close, ap repetition (sym (append-nil g.own)) ∙ g.alone [] refl);
        close = omega arith;
      }

  pub set_front : (s : List ℕ) (c : Set) (r : List ℕ) → ASet A s c r → Front A m_group d s (set c) r
  set_front s c r h =
      record {
        front = h.0.own;
        splits = h.0.splits;
        text = ap (labelled_set A) (sym (append-nil h.0.own)) ∙ h.0.alone tt [];
        close = omega arith;
      }

  pub group_front :
      (s : List ℕ) (t : Tree) (s₁ : List ℕ) → next "(" s ≡ true → Front A m_alternation d (rest s) t s₁ → next ")" s₁ ≡ true →
      Front A m_group (suc d) s (group t) (rest s₁)
  group_front s t s₁ k f e =
      record {
        front = code "(" ∷ (f.front ++ (code ")" ∷ []));
        splits =
            signed "(" s (f.front ++ (code ")" ∷ [])) (rest s₁) k
            (cut (rest s) f.front s₁ (code ")" ∷ []) (rest s₁) f.splits (next_is ")" s₁ e));
        text = (f.front, refl, f.text);
        close = omega arith;
      }

  pub group_stop : (s : List ℕ) (n : Refusal) (r : List ℕ) → next "(" s ≡ true → Stop A m_alternation d (rest s) n r → Stop A m_group (suc d) s n r
  group_stop s n r k f =
      record {
        front = code "(" ∷ f.front;
        splits = signed "(" s f.front r k f.splits;
        begins = λ a. let b = f.begins a in (
          b.0 ++ (code ")" ∷ []),
          group b.1,
          (f.front ++ b.0, ap (λ (l : List ℕ). code "(" ∷ l) (sym (append_assoc f.front b.0 (code ")" ∷ []))), b.2),
          omega arith,
        );
      }
