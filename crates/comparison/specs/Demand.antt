-- What demand 3 asks of Compare past its checks: the cheapest rivals of both forms, and the difference of their prices. What demand 3 calls a
-- rival is `PlainRival` (outcome/Plain).
use Rattle.std.specs.Prelude.{ℕ, ◌≤◌, ◌≡◌, ◌⊎◌, List, pos, ◌-ℤ◌}
use Rattle.refusal.specs.declared.Refusal.TheVariants.{NoReading}
use Rattle.automaton.specs.Automaton.{Accepts}
use Rattle.automaton.specs.Form.{view, alphabet_of}
use Rattle.matrix.specs.Matrix.{Matrix, price}
use Rattle.outcome.specs.Plain.{PlainRival, NoRival}
use Rattle.comparison.specs.Comparison.{Comparison, compared, turned_away}

-- a rival for the form f, and no rival is cheaper
pub record Cheapest (f : List ℕ) (M : Matrix) (p : List ℕ) : Type 0 where
  pub rival : PlainRival (Accepts (view f)) (alphabet_of f) M p
  pub cheapest : (q : List ℕ) → PlainRival (Accepts (view f)) (alphabet_of f) M q → price M p ≤ price M q

-- both forms have a reading, and the first price less the second is reported
pub record TwoReadings (f g : List ℕ) (M : Matrix) (answer : Comparison) : Type 0 where
  pub first : List ℕ
  pub first_is : Cheapest f M first
  pub second : List ℕ
  pub second_is : Cheapest g M second
  pub reported : answer ≡ compared (pos (price M first) -ℤ pos (price M second))

-- there is no rival for the one form or for the other
abbrev pub OneWithout : (f g : List ℕ) → Matrix → Type 0
OneWithout f g M = NoRival (Accepts (view f)) (alphabet_of f) M ⊎ NoRival (Accepts (view g)) (alphabet_of g) M

abbrev pub DifferenceOrNone : (f g : List ℕ) (M : Matrix) (answer : Comparison) → Type 0
DifferenceOrNone f g M answer = TwoReadings f g M answer ⊎ (OneWithout f g M × (answer ≡ turned_away NoReading))
