-- What is in braces: a number by its digits, and a count with or without a comma.
use Rattle.std.specs.Prelude.{◌≡◌, List, [], ◌∷◌, Bool, false, cond, ◌&&◌, ℕ, ◌+◌, ◌*◌, ◌-◌, ◌≤◌, ◌<◌, length, get_or, take, leb}
use Rattle.std.proofs.Math.Path.{refl, sym, ap}
use Rattle.std.proofs.Common.{◌∙◌}
use Rattle.std.proofs.Math.Option.{Option, some, none}
use Rattle.std.proofs.Math.Bool.{true, and-false, and-true}
use Prim.Native.Char.{code}
use native.Mathlib.Omega.{arith}
use Rattle.std.proofs.Math.ListN.{drop}
use borrow.Author.Tests.{le-leb, lt-leb, leb-true}
use Rattle.lists.proofs.EachLaws.{drop_here, drop_all}
use Rattle.lists.proofs.OrderLaws.{and_right, and_both}
use Rattle.refusal.specs.declared.Refusal.{Refusal}
use Rattle.refusal.specs.declared.Refusal.TheVariants as refusal
use Rattle.regex_tree.specs.Tree.{between, onward}
use Rattle.text.specs.Text.{split}
use Rattle.text.specs.Places.{until}
use Rattle.lists.specs.Cases.{provided}
use Rattle.regex_tree.specs.Repetition.{number, from_on, from_to, comma, counts}
use Rattle.text.specs.Digits.{digits, value}
use Rattle.text.proofs.TextLaws.{split_found, split_missing}
use Rattle.std.specs.Prelude.{Some, None, Ok, Err}
use Rattle.regex_repetition.specs.Answers.{several, number_found, ranged, counted}

module _ (n m e : ℕ) where
  pub ranged_order : m < n → Err refusal.Count ≡ ranged n m e
  unfolding ranged
  ranged_order l = rw (lt-leb n m l)

  pub ranged_none : m < 1 → Err refusal.Count ≡ ranged n m e
  unfolding ranged
  ranged_none l = rw (lt-leb 1 m l, and-false)

  pub ranged_much : 255 < m → Err refusal.Count ≡ ranged n m e
  unfolding ranged
  ranged_much l = rw (lt-leb m 255 l, and-false)

  pub ranged_is : n ≤ m → 1 ≤ m → m ≤ 255 → Ok (several n (Some m) e) ≡ ranged n m e
  unfolding ranged
  ranged_is a b c = rw (le-leb n m a, le-leb 1 m b, le-leb m 255 c)

-- The number that digits make.
value_most : (n : ℕ) (s : List ℕ) → n ≤ value n s
value_most n [] = omega arith
value_most n (b ∷ s) = let h = value_most (10 * n + (b - code "0")) s in omega arith

abbrev in_range : List ℕ → Bool
in_range s = digits s && leb 1 (length s) && leb (length s) 3 && leb (value 0 s) 255

not_in_range : (s : List ℕ) → in_range s ≡ false → Err refusal.Count ≡ number_found (number s)
unfolding number provided
not_in_range s e = sym (ap (λ t. number_found (provided t (some (value 0 s)))) e)

-- what is left of the digits at index i, after those that make n
pub record Digits (s : List ℕ) (i n : ℕ) : Type 0 where
  pub within : i ≤ length s
  pub small : n ≤ 255
  pub decides : digits (drop i s) ≡ digits s
  pub goes_on : value n (drop i s) ≡ value 0 s

module _ (s : List ℕ) where
  pub number_empty : length s < 1 → Err refusal.Count ≡ number_found (number s)
  number_empty l = not_in_range s (rw (lt-leb 1 (length s) l, and-false))

  pub number_long : 3 < length s → Err refusal.Count ≡ number_found (number s)
  number_long l = not_in_range s (rw (lt-leb (length s) 3 l, and-false))

  pub digits_none : Digits s 0 0
  digits_none = record { within = omega arith; small = omega arith; decides = refl; goes_on = refl }

  module _ (i n : ℕ) (h : Digits s i n) (l : i < length s) where
    abbrev digit : Bool
    digit = leb (code "0") (get_or s i 0) && leb (get_or s i 0) (code "9")

    digit_decides : digits s ≡ (digit && digits (drop (i + 1) s))
    digit_decides = sym h.decides ∙ ap digits (drop_here 0 s i l)

    no_digit : digit ≡ false → Err refusal.Count ≡ number_found (number s)
    no_digit e = let q : digits s ≡ false = digit_decides ∙ ap (λ t. t && digits (drop (i + 1) s)) e in not_in_range s (rw q)

    pub number_low : get_or s i 0 < 48 → Err refusal.Count ≡ number_found (number s)
    number_low k = no_digit (rw (lt-leb 48 (get_or s i 0) k))

    pub number_high : 57 < get_or s i 0 → Err refusal.Count ≡ number_found (number s)
    number_high k = no_digit (rw (lt-leb (get_or s i 0) 57 k, and-false))

    pub number_much : 255 < 10 * n + (get_or s i 0 - 48) → Err refusal.Count ≡ number_found (number s)
    number_much k =
        let q : value 0 s ≡ value (10 * n + (get_or s i 0 - 48)) (drop (i + 1) s) = sym h.goes_on ∙ ap (value n) (drop_here 0 s i l) in
        let m = value_most (10 * n + (get_or s i 0 - 48)) (drop (i + 1) s) in
        not_in_range s (rw (lt-leb (value 0 s) 255 (omega arith), and-false))

    pub digits_more :
        48 ≤ get_or s i 0 → get_or s i 0 ≤ 57 → 10 * n + (get_or s i 0 - 48) ≤ 255 → Digits s (i + 1) (10 * n + (get_or s i 0 - 48))
    digits_more a b k =
        record {
          within = omega arith;
          small = k;
          decides = sym (digit_decides ∙ ap (λ t. t && digits (drop (i + 1) s)) (and_both _ _ (le-leb 48 (get_or s i 0) a) (le-leb (get_or s i 0) 57 b)));
          goes_on = sym (ap (value n) (drop_here 0 s i l)) ∙ h.goes_on;
        }

  pub number_is :
      (i n : ℕ) → Digits s i n → length s ≤ i → 1 ≤ length s → length s ≤ 3 → Ok n ≡ number_found (number s)
  unfolding number provided
  number_is i n h l a b =
      let d : digits s ≡ true = sym h.decides ∙ ap digits (drop_all s i l) in
      let v : n ≡ value 0 s = sym (ap (value n) (drop_all s i l)) ∙ h.goes_on in
      let k = h.small in
      let e : in_range s ≡ true = rw (d, le-leb 1 (length s) a, le-leb (length s) 3 b, le-leb (value 0 s) 255 (omega arith)) in
      ap Ok v ∙ sym (ap (λ t. number_found (provided t (some (value 0 s)))) e)

-- at most 255
abbrev Small : Option ℕ → Type 0
Small none = Unit {0}
Small (some n) = n ≤ 255

number_small : (s : List ℕ) → Small (number s)
unfolding number provided
number_small s = by (in_range s) refl
  where
    by : (t : Bool) → in_range s ≡ t → Small (provided t (some (value 0 s)))
    by true e = leb-true (value 0 s) 255 (and_right (digits s && leb 1 (length s) && leb (length s) 3) (leb (value 0 s) 255) e)
    by false e = tt

pub number_most : (s : List ℕ) (n : ℕ) → Ok n ≡ number_found (number s) → n ≤ 255
number_most s n h = by (number s) (number_small s) h
  where
    by : (x : Option ℕ) → Small x → Ok n ≡ number_found x → n ≤ 255
    by none l q = absurd (cc)
    by (some m) l q = let e : n ≡ m = cc in omega arith

number_is_some : (x : Option ℕ) (n : ℕ) → Ok n ≡ number_found x → x ≡ some n
number_is_some none n q = cc
number_is_some (some m) n q = let e : n ≡ m = cc in ap some (sym e)

number_is_none : (x : Option ℕ) (r : Refusal) → Err r ≡ number_found x → (x ≡ none) × (r ≡ refusal.Count)
number_is_none none r q = (refl, cc)
number_is_none (some m) r q = absurd (cc)

ranged_counted : (n m e : ℕ) → m ≤ 255 → ranged n m e ≡ counted (from_to (some n) (some m)) e
unfolding ranged from_to provided
ranged_counted n m e b = rw (le-leb m 255 b, and-true) (by (leb n m && leb 1 m))
  where
    by : (t : Bool) → cond t (Ok (several n (Some m) e)) (Err refusal.Count) ≡ counted (provided t (some (between n m))) e
    by true = refl
    by false = refl

-- What is in the braces, with or without a comma at k.
comma_more : (n m : List ℕ) → (length m ≡ 0 → ⊥) → comma n m ≡ from_to (number n) (number m)
unfolding comma
comma_more n [] h = absurd (h refl)
comma_more n (b ∷ m) h = refl

comma_last : (n m : List ℕ) → length m ≡ 0 → comma n m ≡ from_on (number n)
unfolding comma
comma_last n [] h = refl
comma_last n (b ∷ m) h = absurd (omega arith)

module _ (inside : List ℕ) (e k : ℕ) (is : k ≡ 0 + until (code ",") inside) where
  module _ (l : length inside ≤ k) where
    counts_alone : counts inside ≡ from_to (number inside) (number inside)
    unfolding counts
    counts_alone = let s : split "," inside ≡ none = split_missing "," inside 0 k is (omega arith) l in rw (s, counts)

    pub counts_one : (n : ℕ) → Ok n ≡ number_found (number inside) → ranged n n e ≡ counted (counts inside) e
    counts_one n q =
        ranged_counted n n e (number_most inside n q) ∙ ap (λ x. counted x e) (sym (counts_alone ∙ rw (number_is_some (number inside) n q)))

    pub counts_no_number : (r : Refusal) → Err r ≡ number_found (number inside) → Err r ≡ counted (counts inside) e
    unfolding from_to
    counts_no_number r q =
        let z = number_is_none (number inside) r q in
        let k : from_to (number inside) (number inside) ≡ none = rw z.0 in
        ap Err z.1 ∙ ap (λ x. counted x e) (sym (counts_alone ∙ k))

  module _ (l : k < length inside) where
    counts_comma : counts inside ≡ comma (take k inside) (drop (k + 1) inside)
    unfolding counts
    counts_comma =
        let s : split "," inside ≡ some (take (k - 0) inside, drop (k + 1) inside) = split_found "," inside 0 k is l in
        let z : k - 0 ≡ k = omega arith in
        rw (s, counts) (rw z)

    -- no number before the comma
    pub counts_bad : (r : Refusal) → Err r ≡ number_found (number (take k inside)) → Err r ≡ counted (counts inside) e
    unfolding from_on from_to comma
    counts_bad r q = ap Err z.1 ∙ ap (λ x. counted x e) (sym (counts_comma ∙ by (drop (k + 1) inside)))
      where
        z : (number (take k inside) ≡ none) × (r ≡ refusal.Count)
        z = number_is_none (number (take k inside)) r q

        by : (m : List ℕ) → comma (take k inside) m ≡ none
        by [] = rw z.0
        by (b ∷ m) = rw z.0

    module _ (n : ℕ) (p : Ok n ≡ number_found (number (take k inside))) where
      module _ (h : length (drop (k + 1) inside) ≡ 0 → ⊥) where
        two : counts inside ≡ from_to (some n) (number (drop (k + 1) inside))
        two = counts_comma ∙ comma_more (take k inside) (drop (k + 1) inside) h ∙ rw (number_is_some (number (take k inside)) n p)

        pub counts_two : (m : ℕ) → Ok m ≡ number_found (number (drop (k + 1) inside)) → ranged n m e ≡ counted (counts inside) e
        counts_two m q =
            ranged_counted n m e (number_most (drop (k + 1) inside) m q)
            ∙ ap (λ x. counted x e) (sym (two ∙ rw (number_is_some (number (drop (k + 1) inside)) m q)))

        pub counts_no_most : (r : Refusal) → Err r ≡ number_found (number (drop (k + 1) inside)) → Err r ≡ counted (counts inside) e
        unfolding from_to
        counts_no_most r q =
            let z = number_is_none (number (drop (k + 1) inside)) r q in
            let f : from_to (some n) (number (drop (k + 1) inside)) ≡ none = rw z.0 in
            ap Err z.1 ∙ ap (λ x. counted x e) (sym (two ∙ f))

      pub counts_onward : length (drop (k + 1) inside) ≡ 0 → Ok (several n None e) ≡ counted (counts inside) e
      unfolding from_on
      counts_onward h =
          let f : from_on (number (take k inside)) ≡ some (onward n) = rw (number_is_some (number (take k inside)) n p) in
          ap (λ x. counted x e) (sym (counts_comma ∙ comma_last (take k inside) (drop (k + 1) inside) h ∙ f))
