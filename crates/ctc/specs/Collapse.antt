-- Collapse (document 01, "Alphabet, labels, paths"): first each run of equal labels becomes one label, then the blanks are deleted.
-- Label 0 is the blank.
use Rattle.std.specs.Prelude.{ℕ, Bool, true, false, List, [], ◌∷◌, eqb}

-- path p with label x before it, or x left out
abbrev pub omitting : Bool → ℕ → List ℕ → List ℕ
omitting true x p = p
omitting false x p = x ∷ p

-- each run of equal labels becomes one label
unfoldable pub merge : List ℕ → List ℕ
merge [] = []
merge (x ∷ []) = x ∷ []
merge (x ∷ (y ∷ p)) = omitting (eqb x y) x (merge (y ∷ p))

unfoldable pub without_blanks : List ℕ → List ℕ
without_blanks [] = []
without_blanks (x ∷ p) = omitting (eqb x 0) x (without_blanks p)

unfoldable pub collapse : List ℕ → List ℕ
collapse p = without_blanks (merge p)
