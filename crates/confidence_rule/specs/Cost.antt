-- The cost of a confidence byte (document 01, "Confidences and the sheet program"; document 02, T-06).
use Rattle.std.specs.Prelude.{ℕ, zero, suc, ◌*◌, ◌^◌, Bool, true, false, leb, eqb}
use Rattle.matrix.specs.Matrix.{BARRED}

abbrev pub either : Bool → ℕ → ℕ → ℕ
either true a b = a
either false a b = b

-- the largest number up to a bound that passes a test, or 0
unfoldable pub largest : (ℕ → Bool) → ℕ → ℕ
largest passes zero = 0
largest passes (suc n) = either (passes (suc n)) (suc n) (largest passes n)

-- 2ⁿ × p ≤ 2⁶⁴
abbrev pub within : ℕ → ℕ → Bool
within p n = leb (2 ^ n * p) (2 ^ 64)

-- the largest such n up to 64
unfoldable pub shift : ℕ → ℕ
shift p = largest (within p) 64

-- for a confidence c from 1 to 255 the largest whole n with 2ⁿ × c⁸ ≤ 2⁶⁴; for 0 the cost of a barred label
unfoldable pub cost_of : ℕ → ℕ
cost_of c = either (eqb c 0) BARRED (shift (c ^ 8))
