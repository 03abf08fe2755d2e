-- The words of a form: what the test of each kind shows, the order of arcs as the order of numbers, and the fields of a word that was made
-- of fields.
use Rattle.std.specs.Prelude.{ℕ, ◌/◌, ◌%◌, ◌<◌, ◌≤◌, ◌≡◌, Bool, true, false, ◌⊎◌, ltb, eqb}
use Rattle.std.proofs.Common.{inl, inr, arith, eqb-true, lt-ltb, eq-eqb, le-ltb, ne_eqb}
use Rattle.lists.proofs.RangeLaws.{range_inside, range_true}
use Rattle.lists.specs.Lists.{in_range}
use Rattle.lists.proofs.OrderLaws.{and_left, and_right, and_both, and_three, and_all_three, lt_or_le, eq_or_ne}
use Rattle.automaton.specs.Form.{bit, head_word, letter_word, arc_word, byte0, byte2, bit8, bit9, source, target, is_head, is_letter, is_arc, before}

pub record Head (w : ℕ) : Type 0 where
  pub same : w ≡ head_word (byte0 w) (bit8 w) (byte2 w)
  pub letters_low : 1 ≤ byte0 w
  pub letters_high : byte0 w ≤ 127
  pub alphabet_low : 1 ≤ byte2 w
  pub alphabet_high : byte2 w ≤ 95

pub record Letter (k w : ℕ) : Type 0 where
  pub same : w ≡ letter_word (byte0 w) (bit8 w) (bit9 w)
  pub low : 1 ≤ byte0 w
  pub high : byte0 w ≤ k

pub record Arc (l w : ℕ) : Type 0 where
  pub same : w ≡ arc_word (source w) (target w)
  pub source_low : 1 ≤ source w
  pub source_high : source w ≤ l
  pub target_low : 1 ≤ target w
  pub target_high : target w ≤ l

pub head_true : (w : ℕ) → is_head w ≡ true → Head w
head_true w e =
    let p = and_three (eqb w (head_word (byte0 w) (bit8 w) (byte2 w))) (in_range 1 127 (byte0 w)) (in_range 1 95 (byte2 w)) e in
    let l = range_true 1 127 (byte0 w) p.1 in
    let k = range_true 1 95 (byte2 w) p.2 in
    record {
      same = eqb-true w (head_word (byte0 w) (bit8 w) (byte2 w)) p.0;
      letters_low = l.0;
      letters_high = l.1;
      alphabet_low = k.0;
      alphabet_high = k.1;
    }

pub true_head : (w : ℕ) → Head w → is_head w ≡ true
true_head w h =
    and_all_three (eqb w (head_word (byte0 w) (bit8 w) (byte2 w))) (in_range 1 127 (byte0 w)) (in_range 1 95 (byte2 w))
    (eq-eqb w (head_word (byte0 w) (bit8 w) (byte2 w)) h.same)
    (range_inside 1 127 (byte0 w) h.letters_low h.letters_high)
    (range_inside 1 95 (byte2 w) h.alphabet_low h.alphabet_high)

pub letter_true : (k w : ℕ) → is_letter k w ≡ true → Letter k w
letter_true k w e =
    let same = eqb w (letter_word (byte0 w) (bit8 w) (bit9 w)) in
    let l = range_true 1 k (byte0 w) (and_right same (in_range 1 k (byte0 w)) e) in
    record { same = eqb-true w (letter_word (byte0 w) (bit8 w) (bit9 w)) (and_left same (in_range 1 k (byte0 w)) e); low = l.0; high = l.1 }

pub true_letter : (k w : ℕ) → Letter k w → is_letter k w ≡ true
true_letter k w h =
    and_both (eqb w (letter_word (byte0 w) (bit8 w) (bit9 w))) (in_range 1 k (byte0 w))
    (eq-eqb w (letter_word (byte0 w) (bit8 w) (bit9 w)) h.same)
    (range_inside 1 k (byte0 w) h.low h.high)

pub arc_true : (l w : ℕ) → is_arc l w ≡ true → Arc l w
arc_true l w e =
    let p = and_three (eqb w (arc_word (source w) (target w))) (in_range 1 l (source w)) (in_range 1 l (target w)) e in
    let s = range_true 1 l (source w) p.1 in
    let t = range_true 1 l (target w) p.2 in
    record {
      same = eqb-true w (arc_word (source w) (target w)) p.0;
      source_low = s.0;
      source_high = s.1;
      target_low = t.0;
      target_high = t.1;
    }

pub true_arc : (l w : ℕ) → Arc l w → is_arc l w ≡ true
true_arc l w h =
    and_all_three (eqb w (arc_word (source w) (target w))) (in_range 1 l (source w)) (in_range 1 l (target w))
    (eq-eqb w (arc_word (source w) (target w)) h.same)
    (range_inside 1 l (source w) h.source_low h.source_high)
    (range_inside 1 l (target w) h.target_low h.target_high)

-- arcs compare as numbers
pub before_less : (l w v : ℕ) → Arc l w → Arc l v → before w v ≡ ltb w v
before_less l w v a b = by (lt_or_le (source w) (source v)) (eq_or_ne (source w) (source v)) (lt_or_le (target w) (target v))
  where
    by :
        (source w < source v) ⊎ (source v ≤ source w) → (source w ≡ source v) ⊎ (source w ≡ source v → ⊥) → (target w < target v) ⊎ (target v ≤ target w)
        → before w v ≡ ltb w v
    by (inl s) e t = rw (lt-ltb (source w) (source v) s, lt-ltb w v (omega arith))
    by (inr s) (inl e) (inl t) = rw (le-ltb (source w) (source v) s, eq-eqb (source w) (source v) e, lt-ltb (target w) (target v) t, lt-ltb w v (omega arith))
    by (inr s) (inl e) (inr t) = rw (le-ltb (source w) (source v) s, eq-eqb (source w) (source v) e, le-ltb (target w) (target v) t, le-ltb w v (omega arith))
    by (inr s) (inr e) t = rw (le-ltb (source w) (source v) s, ne_eqb (source w) (source v) e, le-ltb w v (omega arith))

bit_small : (b : Bool) → bit b ≤ 1
bit_small true = omega arith
bit_small false = omega arith

bit_read : (b : Bool) (n : ℕ) → n ≡ bit b → eqb n 1 ≡ b
bit_read true n e = eq-eqb n 1 e
bit_read false n e = ne_eqb n 1 (omega arith)

-- the fields of a word that was made of fields
pub head_fields :
    (l : ℕ) (e : Bool) (k : ℕ) → l < 256 → k < 256
    → (byte0 (head_word l e k) ≡ l) × (bit8 (head_word l e k) ≡ e) × (byte2 (head_word l e k) ≡ k)
head_fields l e k p q = (omega (arith, bit_small e), bit_read e (head_word l e k / 256 % 2) (omega (arith, bit_small e)), omega (arith, bit_small e))

pub letter_fields :
    (x : ℕ) (a b : Bool) → x < 256
    → (byte0 (letter_word x a b) ≡ x) × (bit8 (letter_word x a b) ≡ a) × (bit9 (letter_word x a b) ≡ b)
letter_fields x a b p = (
  omega (arith, bit_small a, bit_small b),
  bit_read a (letter_word x a b / 256 % 2) (omega (arith, bit_small a, bit_small b)),
  bit_read b (letter_word x a b / 512 % 2) (omega (arith, bit_small a, bit_small b)),
)

pub arc_fields : (i j : ℕ) → i < 256 → j < 256 → (source (arc_word i j) ≡ i) × (target (arc_word i j) ≡ j)
arc_fields i j p q = (omega arith, omega arith)
