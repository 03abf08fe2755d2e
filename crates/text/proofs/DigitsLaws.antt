-- Digits with one more digit after them.
use Rattle.std.specs.Prelude.{◌≡◌, refl, List, [], ◌∷◌, ◌++◌, true, ℕ, ◌+◌, ◌*◌, ◌-◌}
use Rattle.lists.proofs.OrderLaws.{and_left, and_right, and_both}
use Rattle.text.specs.Digits.{digits, value, digit}

pub digits_append : (p : List ℕ) (b : ℕ) → digits p ≡ true → digit b ≡ true → digits (p ++ (b ∷ [])) ≡ true
digits_append [] b h d = rw d
digits_append (a ∷ p) b h d =
    and_both (digit a) (digits (p ++ (b ∷ []))) (and_left (digit a) (digits p) h) (digits_append p b (and_right (digit a) (digits p) h) d)

pub value_append : (n : ℕ) (p : List ℕ) (b : ℕ) → value n (p ++ (b ∷ [])) ≡ 10 * value n p + (b - 48)
value_append n [] b = refl
value_append n (a ∷ p) b = value_append (10 * n + (a - 48)) p b
