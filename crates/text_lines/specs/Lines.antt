-- The pieces of a text between separators, and its lines.
use Rattle.std.specs.Prelude.{◌≡◌, List, [], ◌∷◌, cond, ℕ, eqb}
use Rattle.std.proofs.Math.Option.{Option, some, none}
use Rattle.lists.specs.Each.{Each}

-- no byte of the text is the separator c
abbrev pub Free : ℕ → List ℕ → Type 0
Free c p = Each (λ b. b ≡ c → ⊥) p

-- a byte put before the first piece
unfoldable pub onto : ℕ → List (List ℕ) → List (List ℕ)
onto b [] = (b ∷ []) ∷ []
onto b (p ∷ ps) = (b ∷ p) ∷ ps

-- the parts of a text between its separators c: one part more than there are separators
unfoldable pub pieces : ℕ → List ℕ → List (List ℕ)
pieces c [] = [] ∷ []
pieces c (b ∷ s) = cond (eqb b c) ([] ∷ pieces c s) (onto b (pieces c s))

-- one put before the others, if both are there
unfoldable pub both : {A : Type 0} → Option A → Option (List A) → Option (List A)
both none ys = none
both (some y) none = none
both (some y) (some ys) = some (y ∷ ys)

-- the pieces except the last, which must be empty
unfoldable pub closed : List (List ℕ) → Option (List (List ℕ))
closed [] = none
closed ([] ∷ []) = some []
closed ((b ∷ p) ∷ []) = none
closed (p ∷ (q ∷ ps)) = both (some p) (closed (q ∷ ps))

-- the lines of a text that ends with a newline
abbrev pub lines_of : List ℕ → Option (List (List ℕ))
lines_of s = closed (pieces 10 s)
