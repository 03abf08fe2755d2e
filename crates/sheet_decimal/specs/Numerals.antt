-- A number in decimal, as bytes.
use Rattle.std.specs.Prelude.{ℕ, zero, suc, ◌+◌, ◌/◌, ◌%◌, true, false, List, [], ◌∷◌, ◌++◌, ltb}
use Prim.Native.Char.{code}

-- the digit of a number below 10
abbrev pub digit : ℕ → ℕ
digit n = code "0" + n

-- n in decimal, by at most k divisions
unfoldable pub digits : (k n : ℕ) → List ℕ
digits zero n = []
digits (suc k) n = elim (ltb n 10) [ true ↦ digit n ∷ [] | false ↦ digits k (n / 10) ++ (digit (n % 10) ∷ []) ]

-- n in decimal: n + 1 divisions are enough
unfoldable pub decimal : ℕ → List ℕ
decimal n = digits (n + 1) n
