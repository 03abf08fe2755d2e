-- The check of a form as it goes through the list: a word is put together again from its fields, each arc is compared with the one before,
-- and the five tests are made one after another.
use Rattle.std.specs.Prelude.{ℕ, suc, ◌+◌, ◌-◌, ◌*◌, ◌/◌, ◌%◌, ◌<◌, ◌≤◌, ◌≡◌, Bool, ◌&&◌, ◌⊎◌, leb, eqb, get_or, take, drop}
use Rattle.std.proofs.Math.Path.{refl, sym, ap, ap₂}
use Rattle.std.proofs.Common.{◌∙◌, inl, inr, add-one, arith, length-drop, take_all, eq-eqb, ne_eqb, lt-ltb, le-ltb}
use Rattle.std.proofs.Math.Bool.{true, false, and_assoc, and-true}
use mathlib.Core.List.{List, [], ◌∷◌}
use Rattle.std.proofs.Math.Dec.{ltb}
use Rattle.std.proofs.Math.ListN.{length}
use Rattle.lists.proofs.OrderLaws.{eq_or_ne}
use Rattle.lists.specs.Lists.{in_range}
use Rattle.lists.proofs.EachLaws.{drop_here, drop_all}
use Rattle.lists.specs.Each.{all}
use Rattle.automaton.specs.Form.{bit, bit8, bit9, byte0, byte2, source, target, head_word, letter_word, arc_word, is_head, is_letter, is_arc, before, ordered, valid_form, letters_of, alphabet_of, letter_words, arc_words}
use Rattle.automaton.specs.WordsLaws.{Arc, arc_true, before_less}

-- the test of a bit, as a number, is the bit
parity : (n : ℕ) → bit (eqb (n % 2) 1) ≡ n % 2
parity n = by (eq_or_ne (n % 2) 1)
  where
    by : (n % 2 ≡ 1) ⊎ (n % 2 ≡ 1 → ⊥) → bit (eqb (n % 2) 1) ≡ n % 2
    by (inl e) = ap bit (eq-eqb (n % 2) 1 e) ∙ sym e
    by (inr e) = ap bit (ne_eqb (n % 2) 1 e) ∙ (omega arith)

pub head_sum : (w : ℕ) → head_word (byte0 w) (bit8 w) (byte2 w) ≡ 0x10000000 + byte2 w * 0x10000 + w / 0x100 % 2 * 0x100 + byte0 w
head_sum w = omega (arith, parity (w / 0x100))

pub letter_sum : (w : ℕ) → letter_word (byte0 w) (bit8 w) (bit9 w) ≡ 0x20000000 + w / 0x200 % 2 * 0x200 + w / 0x100 % 2 * 0x100 + byte0 w
letter_sum w = omega (arith, parity (w / 0x100), parity (w / 0x200))

-- the five comparisons of an arc, one after another
pub arc_tests :
    (l w : ℕ)
    → (eqb w (arc_word (source w) (target w)) && leb 1 (source w) && leb (source w) l && leb 1 (target w) && leb (target w) l) ≡ is_arc l w
arc_tests l w =
    let same = eqb w (arc_word (source w) (target w)) in
    and_assoc (same && leb 1 (source w) && leb (source w) l) (leb 1 (target w)) (leb (target w) l)
    ∙ ap (λ t. t && in_range 1 l (target w)) (and_assoc same (leb 1 (source w)) (leb (source w) l))

-- arcs, each above the one before
unfoldable pub beyond : ℕ → ℕ → List ℕ → Bool
beyond l last [] = true
beyond l last (w ∷ ws) = is_arc l w && ltb last w && beyond l w ws

-- one pass that makes two tests gives what two passes of one test give
both : (a b t x y z : Bool) → (a ≡ true → b ≡ t) → (a ≡ true → x ≡ (y && z)) → (a && t && x) ≡ ((a && y) && (b && z))
both false b t x y z f g = refl
both true true true x y z f g = g refl
both true true false x y z f g = let z : ◌≡◌ {A = ℕ} 0 1 = cc (f refl) in absurd (omega arith)
both true false true x y z f g = let z : ◌≡◌ {A = ℕ} 0 1 = cc (f refl) in absurd (omega arith)
both true false false x true z f g = refl
both true false false x false z f g = refl

module _ (l : ℕ) where
  beyond_arc : (p : ℕ) (ws : List ℕ) → Arc l p → beyond l p ws ≡ (all (is_arc l) ws && ordered (p ∷ ws))
  unfolding beyond ordered
  beyond_arc p [] a = refl
  beyond_arc p (w ∷ ws) a =
      both (is_arc l w) (before p w) (ltb p w) (beyond l w ws) (all (is_arc l) ws) (ordered (w ∷ ws))
      (λ e. before_less l p w a (arc_true l w e))
      (λ e. beyond_arc w ws (arc_true l w e))

  -- 0 is below every arc
  pub beyond_none : (ws : List ℕ) → beyond l 0 ws ≡ (all (is_arc l) ws && ordered ws)
  unfolding beyond ordered
  beyond_none [] = refl
  beyond_none (w ∷ ws) =
      both (is_arc l w) true (ltb 0 w) (beyond l w ws) (all (is_arc l) ws) (ordered (w ∷ ws))
      (λ e. let a = arc_true l w e in let s = a.same in sym (lt-ltb 0 w (omega arith)))
      (λ e. beyond_arc w ws (arc_true l w e))

  -- the loop over the arcs, without an early exit: the tests so far and the rest of the list decide
  module _ (ws : List ℕ) (so_far : Bool) (last n : ℕ) (whole : Bool) (decide : (so_far && beyond l last (drop n ws)) ≡ whole) where
    pub beyond_end : length ws ≤ n → so_far ≡ whole
    unfolding beyond
    beyond_end h = sym (ap (λ rest. so_far && beyond l last rest) (drop_all ws n h) ∙ and-true so_far) ∙ decide

    pub beyond_more : n < length ws → (so_far && is_arc l (get_or ws n 0) && ltb last (get_or ws n 0) && beyond l (get_or ws n 0) (drop (n + 1) ws)) ≡ whole
    unfolding beyond
    beyond_more h =
        ap (λ t. t && beyond l (get_or ws n 0) (drop (n + 1) ws)) (and_assoc so_far (is_arc l (get_or ws n 0)) (ltb last (get_or ws n 0)))
        ∙ and_assoc so_far (is_arc l (get_or ws n 0) && ltb last (get_or ws n 0)) (beyond l (get_or ws n 0) (drop (n + 1) ws))
        ∙ ap (λ rest. so_far && beyond l last rest) (sym (drop_here 0 ws n h))
        ∙ decide

-- the five tests, in their order
module _ (f : List ℕ) where
  pub valid_empty : length f ≡ 0 → valid_form f ≡ false
  unfolding valid_form
  valid_empty e = by f e
    where
      by : (g : List ℕ) → length g ≡ 0 → valid_form g ≡ false
      by [] h = refl
      by (x ∷ xs) h = absurd (omega arith)

  pub valid_head : is_head (get_or f 0 0) ≡ false → valid_form f ≡ false
  unfolding valid_form
  valid_head e =
      ap (λ h. h && ltb (letters_of f) (length f) && all (is_letter (alphabet_of f)) (letter_words f) && all (is_arc (letters_of f)) (arc_words f) && ordered (arc_words f)) e

  pub valid_short : is_head (get_or f 0 0) ≡ true → length f ≤ letters_of f → valid_form f ≡ false
  unfolding valid_form
  valid_short e s =
      ap₂ (λ h n. h && n && all (is_letter (alphabet_of f)) (letter_words f) && all (is_arc (letters_of f)) (arc_words f) && ordered (arc_words f)) e
      (le-ltb (letters_of f) (length f) s)

  pub valid_letters :
      is_head (get_or f 0 0) ≡ true → letters_of f < length f → all (is_letter (alphabet_of f)) (letter_words f) ≡ false → valid_form f ≡ false
  unfolding valid_form
  valid_letters e s t =
      ap₂ (λ h n. h && n && all (is_letter (alphabet_of f)) (letter_words f) && all (is_arc (letters_of f)) (arc_words f) && ordered (arc_words f)) e
      (lt-ltb (letters_of f) (length f) s)
      ∙ ap (λ ls. ls && all (is_arc (letters_of f)) (arc_words f) && ordered (arc_words f)) t

  pub valid_arcs :
      is_head (get_or f 0 0) ≡ true → letters_of f < length f → all (is_letter (alphabet_of f)) (letter_words f) ≡ true
      → valid_form f ≡ (all (is_arc (letters_of f)) (arc_words f) && ordered (arc_words f))
  unfolding valid_form
  valid_arcs e s t =
      ap₂ (λ h n. h && n && all (is_letter (alphabet_of f)) (letter_words f) && all (is_arc (letters_of f)) (arc_words f) && ordered (arc_words f)) e
      (lt-ltb (letters_of f) (length f) s)
      ∙ ap (λ ls. ls && all (is_arc (letters_of f)) (arc_words f) && ordered (arc_words f)) t

  -- the parts of the list that the loops go through
  module _ (l : ℕ) (same : l ≡ letters_of f) where
    pub letters_part : take (l + 1 - 1) (drop 1 f) ≡ letter_words f
    letters_part = ap (λ n. take n (drop 1 f)) size
      where
        size : l + 1 - 1 ≡ letters_of f
        size = omega arith

    pub arcs_part : take (length f - (l + 1)) (drop (l + 1) f) ≡ arc_words f
    arcs_part = take_all (length f - (l + 1)) (drop (l + 1) f) (omega (arith, length-drop (l + 1) f)) ∙ ap (λ n. drop n f) (add-one l ∙ ap suc same)

-- the last two tests by the head and the rest of the list
module _ (f : List ℕ) (x : ℕ) (r : List ℕ) (parts : f ≡ x ∷ r) (head : is_head x ≡ true) (enough : byte0 x ≤ length r) where
  pub rest_letters : all (is_letter (byte2 x)) (take (byte0 x) r) ≡ false → valid_form f ≡ false
  rest_letters t = ap valid_form parts ∙ valid_letters (x ∷ r) head (omega arith) t

  pub rest_arcs :
      all (is_letter (byte2 x)) (take (byte0 x) r) ≡ true
      → valid_form f
      ≡ (all (is_arc (byte0 x)) (take (length r - byte0 x) (drop (byte0 x) r)) && ordered (take (length r - byte0 x) (drop (byte0 x) r)))
  rest_arcs t =
      ap valid_form parts
      ∙ valid_arcs (x ∷ r) head (omega arith) t
      ∙ ap (λ ws. all (is_arc (byte0 x)) ws && ordered ws)
      (sym (take_all (length r - byte0 x) (drop (byte0 x) r) (omega (arith, length-drop (byte0 x) r))))
