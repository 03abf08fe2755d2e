-- What a text, a list of bytes, begins with, and the first such sign in it.
use Rattle.std.proofs.Math.Option.{Option, some, none}
use Rattle.std.specs.Prelude.{List, [], ◌∷◌, Bool, true, false, ℕ, eqb}
use Prim.Native.Char.{Char, code}
use Rattle.lists.specs.Lists.{any}

-- the byte is one of these
abbrev pub one_of : List ℕ → ℕ → Bool
one_of cs b = any (eqb b) cs

-- the text begins with this sign; with one of these
abbrev pub next : Char → List ℕ → Bool
next c [] = false
next c (b ∷ s) = eqb b (code c)

abbrev pub next_of : List ℕ → List ℕ → Bool
next_of cs [] = false
next_of cs (b ∷ s) = one_of cs b

abbrev pub rest : List ℕ → List ℕ
rest [] = []
rest (b ∷ s) = s

-- x before the elements that were found; the rest of the text is unchanged
abbrev pub in_front : {X : Type 0} → X → Option (List X × List ℕ) → Option (List X × List ℕ)
in_front x none = none
in_front x (some y) = some (x ∷ y.0, y.1)

-- the text before the first such sign, and the text after that sign
unfoldable pub split : Char → List ℕ → Option (List ℕ × List ℕ)
split c [] = none
split c (b ∷ s) = elim (eqb b (code c)) [ true ↦ some ([], s) | false ↦ in_front b (split c s) ]
