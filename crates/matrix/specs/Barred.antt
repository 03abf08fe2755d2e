-- Which lists of labels use no barred label, and which matrices have none (document 02, T-06).
use Rattle.std.specs.Prelude.{ℕ, ◌+◌, ◌≡◌, List, [], ◌∷◌}
use Rattle.lists.specs.Each.{Each}
use Rattle.matrix.specs.Matrix.{Matrix, BARRED, cost}

-- no label of the list is barred in its column, where the first label is in column t
abbrev pub UnbarredFrom : Matrix → ℕ → List ℕ → Type 0
UnbarredFrom M t [] = Unit {0}
UnbarredFrom M t (x ∷ p) = (cost M t x ≡ BARRED → ⊥) × UnbarredFrom M (t + 1) p

abbrev pub Unbarred : Matrix → List ℕ → Type 0
Unbarred M p = UnbarredFrom M 0 p

-- no label is barred in any column
abbrev pub NoneBarred : Matrix → Type 0
NoneBarred M = Each (λ c. c ≡ BARRED → ⊥) M.costs
