-- A label with the blank that it needs before it.
use Rattle.std.specs.Prelude.{ℕ, List, [], ◌∷◌, eqb}
use Rattle.ctc.specs.Spread.{parted}

-- what letter x adds to the path after letter a
abbrev pub spaced : ℕ → ℕ → List ℕ
spaced a x = parted (eqb a x) (x ∷ [])
