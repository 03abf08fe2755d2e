-- Labels in decimal, one space between, as bytes.
use Rattle.std.specs.Prelude.{ℕ}
use Prim.Native.Char.{code}
use mathlib.Core.List.{List, [], ◌∷◌, ◌++◌, flat_map}
use Rattle.sheet_decimal.specs.Numerals.{decimal}

-- labels in decimal, each after a space
unfoldable pub following : List ℕ → List ℕ
following p = flat_map (λ x. code " " ∷ decimal x) p

-- labels in decimal, one space between
unfoldable pub spaced : List ℕ → List ℕ
spaced [] = []
spaced (x ∷ p) = decimal x ++ following p
