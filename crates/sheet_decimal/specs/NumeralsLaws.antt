-- Laws of the decimal numeral: its last digit, its length, its value, no extra zero.
use Rattle.std.specs.Prelude.{ℕ, zero, suc, ◌+◌, ◌/◌, ◌%◌, ◌^◌, ◌<◌, ◌≤◌, ◌≡◌, refl, true, [], ◌∷◌, ◌++◌, leb, length, get_or}
use Rattle.std.proofs.Common.{sym, ap, ◌∙◌, ⊎_elim, pow-suc, arith, lt-ltb, le-ltb, le-leb, length-append}
use Rattle.std.proofs.Math.ListN.{get_or-append}
use Rattle.std.specs.Fmt.{decimal as numeral}
use Rattle.std.proofs.lemmas.Fmt.{decimal_from_appends, length-decimal-le_succ}
use Rattle.lists.proofs.OrderLaws.{lt_or_le, and_both}
use Rattle.text.specs.Digits.{value, digit as a_digit, digits as all_digits}
use Rattle.text.proofs.DigitsLaws.{digits_append, value_append}
use Rattle.sheet_decimal.specs.Numerals.{digit, digits, decimal}

digits_one : (k n : ℕ) → n < 10 → digits (suc k) n ≡ digit n ∷ []
unfolding digits
digits_one k n h = rw (lt-ltb n 10 h, digits)

digits_more : (k n : ℕ) → 10 ≤ n → digits (suc k) n ≡ digits k (n / 10) ++ (digit (n % 10) ∷ [])
unfolding digits
digits_more k n h = rw (le-ltb n 10 h, digits)

-- any number of divisions that is enough gives the same digits
digits_enough : (k j n : ℕ) → n < k → n < j → digits k n ≡ digits j n
digits_enough zero j n h g = absurd (omega arith)
digits_enough (suc k) zero n h g = absurd (omega arith)
digits_enough (suc k) (suc j) n h g =
    ⊎_elim (λ l. digits_one k n l ∙ sym (digits_one j n l))
    (λ l. digits_more k n l ∙ ap (λ ds. ds ++ (digit (n % 10) ∷ [])) (digits_enough k j (n / 10) (omega arith) (omega arith)) ∙ sym (digits_more j n l))
    (lt_or_le n 10)

pub decimal_one : (n : ℕ) → n < 10 → decimal n ≡ digit n ∷ []
unfolding decimal
decimal_one n h = digits_enough (n + 1) (suc n) n (omega arith) (omega arith) ∙ digits_one n n h

pub decimal_more : (n : ℕ) → 10 ≤ n → decimal n ≡ decimal (n / 10) ++ (digit (n % 10) ∷ [])
unfolding decimal
decimal_more n h =
    digits_enough (n + 1) (suc n) n (omega arith) (omega arith) ∙ digits_more n n h
    ∙ ap (λ ds. ds ++ (digit (n % 10) ∷ [])) (digits_enough n (n / 10 + 1) (n / 10) (omega arith) (omega arith))

pub decimal_longer : (n : ℕ) → 10 ≤ n → length (decimal n) ≡ length (decimal (n / 10)) + 1
decimal_longer n h = ap length (decimal_more n h) ∙ length-append (decimal (n / 10)) (digit (n % 10) ∷ [])

-- a number below 10 ^ k has at most k digits
pub decimal_short : (k n : ℕ) → n < 10 ^ suc k → length (decimal n) ≤ suc k
decimal_short zero n h = let l = ap length (decimal_one n (omega arith)) in omega arith
decimal_short (suc k) n h =
    let p = pow-suc 10 (suc k) in
    ⊎_elim (λ l. let e = ap length (decimal_one n l) in omega arith)
    (λ l. let e = decimal_longer n l in let d = decimal_short k (n / 10) (omega arith) in omega arith) (lt_or_le n 10)

-- the value of a number's digits is the number
digits_value : (k n : ℕ) → n < k → value 0 (digits k n) ≡ n
digits_value zero n h = absurd (omega arith)
digits_value (suc k) n h =
    ⊎_elim (λ l. ap (value 0) (digits_one k n l) ∙ omega arith)
    (λ l. let i = digits_value k (n / 10) (omega arith) in ap (value 0) (digits_more k n l) ∙ value_append 0 (digits k (n / 10)) (digit (n % 10)) ∙ omega arith)
    (lt_or_le n 10)

pub decimal_value : (n : ℕ) → value 0 (decimal n) ≡ n
unfolding decimal
decimal_value n = digits_value (n + 1) n (omega arith)

-- A numeral has at least one digit, digits only, and no extra zero at the front.

digits_some : (k n : ℕ) → n < k → 1 ≤ length (digits k n)
digits_some zero n h = absurd (omega arith)
digits_some (suc k) n h =
    ⊎_elim (λ l. let e = ap length (digits_one k n l) in omega arith)
    (λ l. let e = ap length (digits_more k n l) in omega (arith, length-append (digits k (n / 10)) (digit (n % 10) ∷ []))) (lt_or_le n 10)

pub decimal_digits : (n : ℕ) → all_digits (decimal n) ≡ true
unfolding decimal
decimal_digits n = by (n + 1) n (omega arith)
  where
    one : (d : ℕ) → d < 10 → a_digit (digit d) ≡ true
    one d h = and_both (leb 48 (digit d)) (leb (digit d) 57) (le-leb 48 (digit d) (omega arith)) (le-leb (digit d) 57 (omega arith))

    by : (k n : ℕ) → n < k → all_digits (digits k n) ≡ true
    by zero n h = absurd (omega arith)
    by (suc k) n h =
        ⊎_elim (λ l. ap all_digits (digits_one k n l) ∙ digits_append [] (digit n) refl (one n l))
        (λ l. ap all_digits (digits_more k n l) ∙ digits_append (digits k (n / 10)) (digit (n % 10)) (by k (n / 10) (omega arith)) (one (n % 10) (omega arith))) (lt_or_le n 10)

pub decimal_lead : (n : ℕ) → 1 ≤ n → 49 ≤ get_or (decimal n) 0 0
unfolding decimal
decimal_lead n l = by (n + 1) n (omega arith) l
  where
    by : (k n : ℕ) → n < k → 1 ≤ n → 49 ≤ get_or (digits k n) 0 0
    by zero n h l = absurd (omega arith)
    by (suc k) n h l =
        ⊎_elim (λ q. let e = ap (λ ds. get_or ds 0 0) (digits_one k n q) in omega arith)
        (λ q.
        let e = ap (λ ds. get_or ds 0 0) (digits_more k n q) ∙ get_or-append (digits k (n / 10)) (digit (n % 10) ∷ []) 0 0 (digits_some k (n / 10) (omega arith)) in
        let i = by k (n / 10) (omega arith) (omega arith) in
        omega arith)
        (lt_or_le n 10)

-- it is the library's numeral
pub decimal_text : (n : ℕ) → n < 2 ^ 64 → decimal n ≡ numeral n
unfolding decimal
decimal_text n h = decimal_from_appends digits (record { one = digits_one; more = digits_more }) (n + 1) n h (length-decimal-le_succ n h)
