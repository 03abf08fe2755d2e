-- Digits, and the number that they make in decimal.
use Rattle.std.specs.Prelude.{List, [], ◌∷◌, Bool, true, ◌&&◌, ℕ, ◌+◌, ◌*◌, ◌-◌, leb}
use Prim.Native.Char.{code}

-- the byte is a digit
abbrev pub digit : ℕ → Bool
digit b = leb (code "0") b && leb b (code "9")

abbrev pub digits : List ℕ → Bool
digits [] = true
digits (b ∷ s) = digit b && digits s

-- the number that they make in decimal, after digits that make n
abbrev pub value : ℕ → List ℕ → ℕ
value n [] = n
value n (b ∷ s) = value (10 * n + (b - code "0")) s
