-- Laws of the digits at a place, and of the number that they give.
use Rattle.std.specs.Prelude.{◌≡◌, refl, Bool, List, [], ◌∷◌, true, false, not, ◌&&◌, ℕ, zero, suc, ◌+◌, ◌*◌, ◌-◌, ◌^◌, ◌<◌, ◌≤◌, length, get_or, eqb, leb, ltb, Some, None}
use Rattle.std.proofs.Common.{sym, ap, ap₂, ◌∙◌, subst, ⊎_elim, arith, pow-suc, lit<, leb-true, le-leb, eqb-true}
use Rattle.std.proofs.Math.Option.{some}
use Rattle.std.proofs.Math.Nat.{pow-le-pow_right}
use Rattle.std.specs.Bool.{then_some}
use Rattle.std.proofs.lemmas.Bool.{not-true, lt-ltb, ltb-true}
use Rattle.lists.proofs.OrderLaws.{and_left, and_right, and_three, or_either, not_both, lt_or_le, true_or_false}
use Rattle.lists.specs.Cases.{provided}
use Rattle.text.specs.Digits.{digits, value, digit}
use Rattle.sheet_format.specs.Sheet.{extra_zero, numeral_of}
use Rattle.sheet_format.proofs.PartsLaws.{provided_back}
use Rattle.text_lines.specs.Places.{part}
use Rattle.text_lines.proofs.PlacesLaws.{part_none, part_more, part_at, part_length}
use Rattle.sheet_number.specs.Digits.{padded, Begun, Digits}
use Rattle.sheet_number.specs.Items.{separator, NumberAt, ReadNumber}
use Rattle.sheet_number.specs.ItemsLaws.{item_begins, separator_within}
use Rattle.text.proofs.DigitsLaws.{digits_append, value_append}

pub digit_range : (b : ℕ) → digit b ≡ true → (48 ≤ b) × (b ≤ 57)
digit_range b e = (leb-true 48 b (and_left (leb 48 b) (leb b 57) e), leb-true b 57 (and_right (leb 48 b) (leb b 57) e))

digits_at : (p : List ℕ) (i : ℕ) → digits p ≡ true → i < length p → digit (get_or p i 0) ≡ true
digits_at [] i h l = absurd (omega arith)
digits_at (b ∷ p) zero h l = and_left (digit b) (digits p) h
digits_at (b ∷ p) (suc i) h l = digits_at p i (and_right (digit b) (digits p) h) (omega arith)

-- Texts that are a number.

padded_zero : (p : List ℕ) → extra_zero p ≡ padded (length p) (get_or p 0 0)
padded_zero [] = refl
padded_zero (a ∷ []) = refl
padded_zero (a ∷ (b ∷ p)) = rw (le-leb 2 (suc (suc (length p))) (omega arith))

numeral_is : (p : List ℕ) → digits p ≡ true → 1 ≤ length p → length p ≤ 7 → extra_zero p ≡ false → numeral_of p ≡ some (value 0 p)
unfolding numeral_of provided
numeral_is p d l h e = rw (d, le-leb 1 (length p) l, le-leb (length p) 7 h, e)

-- what is known of the text of a number
pub record Numeral (p : List ℕ) : Type 0 where
  pub are : digits p ≡ true
  pub some_digit : 1 ≤ length p
  pub few : length p ≤ 7
  pub unpadded : extra_zero p ≡ false

pub numeral_back : (p : List ℕ) (v : ℕ) → numeral_of p ≡ some v → Numeral p
unfolding numeral_of
numeral_back p v e =
    let d = digits p in
    let l = leb 1 (length p) in
    let h = leb (length p) 7 in
    let z = not (extra_zero p) in
    let q = (provided_back (d && l && h && z) (some (value 0 p)) v e).0 in
    let t = and_three d l h (and_left (d && l && h) z q) in
    record {
      are = t.0;
      some_digit = leb-true 1 (length p) t.1;
      few = leb-true (length p) 7 t.2;
      unpadded = not-true (extra_zero p) (and_right (d && l && h) z q);
    }

-- the digits from `at` up to e are a number
abbrev pub number_passes : List ℕ → ℕ → ℕ → Bool
number_passes input at e = ltb at e && not (padded (e - at) (get_or input at 0)) && separator (get_or input e 0)

module _ (input : List ℕ) (at : ℕ) where
  -- the byte at an index of the rest of the input
  pub rest_at : (n : ℕ) → at + n < length input → get_or (part at (length input) input) n 0 ≡ get_or input (at + n) 0
  rest_at n l =
      let k : at + n - at ≡ n = omega arith in
      ap (λ j. get_or (part at (length input) input) j 0) (sym k) ∙ part_at input at (length input) (at + n) (omega arith) l

  pub begun_none : at ≤ length input → Begun input at at 0
  begun_none l =
      let z : at - at ≡ 0 = omega arith in
      record {
        from = omega arith;
        within = l;
        few = omega arith;
        are = rw (part_none input at at (omega arith));
        makes = rw (part_none input at at (omega arith));
        small = rw z (omega arith);
      }

  module _ (i v : ℕ) (h : Begun input at i v) where
    pub begun_small : i < at + 7 → v < 1000000
    begun_small l =
        let f = h.from in
        let k : i - at ≤ 6 = omega arith in
        let p : 10 ^ (i - at) ≤ 10 ^ 6 = pow-le-pow_right (lit< tt) k in
        let s = h.small in
        omega arith

    pub begun_more :
        i < length input → i < at + 7 → digit (get_or input i 0) ≡ true → Begun input at (i + 1) (10 * v + (get_or input i 0 - 48))
    begun_more l k d =
        let f = h.from in
        let more = part_more input at i f l in
        let r = digit_range (get_or input i 0) d in
        let n : i + 1 - at ≡ suc (i - at) = omega arith in
        let s = h.small in
        record {
          from = omega arith;
          within = omega arith;
          few = omega arith;
          are = rw more (digits_append (part at i input) (get_or input i 0) h.are d);
          makes = rw more (value_append 0 (part at i input) (get_or input i 0) ∙ ap (λ w. 10 * w + (get_or input i 0 - 48)) h.makes);
          small = rw (n, pow-suc) (omega arith);
        }

    pub digits_stop : (digit (get_or input i 0) ≡ false) → Digits input at i v
    digits_stop d = record { begun = h; stops = λ l k. d }

    pub digits_seven : i - at ≡ 7 → Digits input at i v
    digits_seven e = record { begun = h; stops = λ l k. absurd (omega arith) }

    pub digits_end : length input ≤ i → Digits input at i v
    digits_end e = record { begun = h; stops = λ l k. absurd (omega arith) }

  -- one more of the rest of the input
  pub begun_next :
      (n v b : ℕ) → Begun input at (at + n) v → at + n < length input → at + n < at + 7 → get_or (part at (length input) input) n 0 ≡ b → digit b ≡ true
      → Begun input at (at + (n + 1)) (10 * v + (b - 48))
  begun_next n v b h l k e d =
      let same : get_or input (at + n) 0 ≡ b = sym (rest_at n l) ∙ e in
      let i : at + n + 1 ≡ at + (n + 1) = omega arith in
      subst (λ j. Begun input at j (10 * v + (b - 48))) i
      (subst (λ c. Begun input at (at + n + 1) (10 * v + (c - 48))) same (begun_more (at + n) v h l k (ap digit same ∙ d)))

separator_ends : (b : ℕ) → separator b ≡ true → digit b ≡ true → ⊥
separator_ends b s d =
    let r = digit_range b d in
    ⊎_elim (λ k. let q = eqb-true b 32 k in omega arith) (λ k. let q = eqb-true b 10 k in omega arith)
    (or_either (eqb b 32) (eqb b 10) s)

number_begins : (input : List ℕ) (at e v : ℕ) → NumberAt input at e v → at < e
unfolding numeral_of provided
number_begins = item_begins numeral_of refl

-- each byte of a part that is all digits is a digit
digit_at : (input : List ℕ) (at e i : ℕ) → digits (part at e input) ≡ true → at ≤ i → i < e → e ≤ length input → digit (get_or input i 0) ≡ true
digit_at input at e i d f l w =
    let n = part_length input at e (omega arith) w in
    rw (part_at input at e i f l) at (digits_at (part at e input) (i - at) d (omega arith))

-- A number at the place is all the digits there and nothing else: a lemma for each return of `read_number`.
module _ (input : List ℕ) (at e v : ℕ) (h : Digits input at e v) where
  abbrev p : List ℕ
  p = part at e input

  size : length p ≡ e - at
  size = part_length input at e h.begun.from h.begun.within

  -- a number that is written at the place ends where its digits end
  same_end : (f w : ℕ) → NumberAt input at f w → f ≡ e
  same_end f w c = ⊎_elim longer (λ l. ⊎_elim shorter (λ k. omega arith) (lt_or_le f e)) (lt_or_le e f)
    where
      longer : e < f → f ≡ e
      longer l =
          let n = numeral_back (part at f input) w c.is in
          let i = c.within in
          let j = h.begun.from in
          let k = part_length input at f (omega arith) (omega arith) in
          let few = n.few in
          absurd (not_both (digit (get_or input e 0)) (digit_at input at f e n.are j l (omega arith)) (h.stops (omega arith) (omega arith)))

      shorter : f < e → f ≡ e
      shorter l =
          let k = number_begins input at f w c in
          absurd (separator_ends (get_or input f 0) c.ends (digit_at input at e f h.begun.are (omega arith) l h.begun.within))

  same_number : (f w : ℕ) → NumberAt input at f w → NumberAt input at e w
  same_number f w c = subst (λ i. NumberAt input at i w) (same_end f w c) c

  -- the input ends after the digits
  pub number_open : e ≡ length input → ReadNumber input at None
  number_open l f w c = let k = (same_number f w c).within in omega arith

  -- no separator follows the digits
  pub number_unread : separator (get_or input e 0) ≡ false → ReadNumber input at None
  number_unread q f w c = not_both (separator (get_or input e 0)) (same_number f w c).ends q

  -- there is no digit
  pub number_missing : e ≡ at → ReadNumber input at None
  number_missing q f w c = let k = number_begins input at e w (same_number f w c) in omega arith

  module _ (s : e ≡ at → ⊥) where
    zero_is : extra_zero p ≡ padded (e - at) (get_or input at 0)
    zero_is =
        let f = h.begun.from in
        let k : at - at ≡ 0 = omega arith in
        padded_zero p ∙ ap₂ padded size (ap (λ j. get_or p j 0) (sym k) ∙ part_at input at e at (omega arith) (omega arith))

    pub number_padded : padded (e - at) (get_or input at 0) ≡ true → ReadNumber input at None
    number_padded q f w c = not_both (extra_zero p) (zero_is ∙ q) (numeral_back p w (same_number f w c).is).unpadded

    pub number_read : separator (get_or input e 0) ≡ true → padded (e - at) (get_or input at 0) ≡ false → ReadNumber input at (Some (record { value = v; end = e }))
    number_read t q =
        let f = h.begun.from in
        let w = h.begun.few in
        let n = size in
        record {
          is = numeral_is p h.begun.are (omega arith) (omega arith) (zero_is ∙ q) ∙ ap some h.begun.makes;
          within = separator_within input e t;
          ends = t;
        }

  -- the tests of `read_number`: a digit, no extra zero, a separator
  pub number_by_tests : (t : Bool) → number_passes input at e ≡ t → ReadNumber input at (then_some t (record { value = v; end = e }))
  number_by_tests true q =
      let n = and_three (ltb at e) (not (padded (e - at) (get_or input at 0))) (separator (get_or input e 0)) q in
      number_read (λ z. let k = ltb-true at e n.0 in omega arith) n.2 (not-true (padded (e - at) (get_or input at 0)) n.1)
  number_by_tests false q =
      ⊎_elim (λ k. ⊎_elim (λ z. number_padded (omega arith) z) (λ z. number_unread (sym (ap₂ (λ b c. b && not c && separator (get_or input e 0)) (lt-ltb at e k) z) ∙ q)) (true_or_false (padded (e - at) (get_or input at 0))))
      (λ k. number_missing (omega arith))
      (lt_or_le at e)
