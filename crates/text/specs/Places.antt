-- Places in a text: where the first such byte is, and where a rest of the text begins.
use Rattle.std.specs.Prelude.{List, [], ◌∷◌, cond, ℕ, suc, ◌-◌, eqb, length}

-- the number of bytes before the first such byte
unfoldable pub until : ℕ → List ℕ → ℕ
until c [] = 0
until c (b ∷ s) = cond (eqb b c) 0 (suc (until c s))

-- the place where a rest of the text begins
abbrev pub place : List ℕ → List ℕ → ℕ
place text r = length text - length r
