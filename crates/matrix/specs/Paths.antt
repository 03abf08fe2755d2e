-- Which lists of labels are paths through a matrix: one label for each column, each of a usable cost.
use Rattle.std.specs.Prelude.{ℕ, ◌+◌, ◌≤◌, ◌<◌, ◌≡◌, List, [], ◌∷◌, ◌⊎◌, length}
use Rattle.lists.specs.Each.{Each}
use Rattle.matrix.specs.Matrix.{Matrix, BARRED, cost}

-- a cost that a path may use
abbrev pub Usable : ℕ → Type 0
Usable c = c ≤ 1000000

-- a list of labels of the matrix with usable costs, where the first label is in column t
abbrev pub PathFrom : Matrix → ℕ → List ℕ → Type 0
PathFrom M t [] = Unit {0}
PathFrom M t (x ∷ p) = (x < M.width) × Usable (cost M t x) × PathFrom M (t + 1) p

-- one label for each column
pub record PathOf (M : Matrix) (p : List ℕ) : Type 0 where
  pub one_each : length p ≡ M.count
  pub labels : PathFrom M 0 p

-- a cost that refusal 13 lets through: a usable one, or that of a barred label
abbrev pub Passing : ℕ → Type 0
Passing c = Usable c ⊎ (c ≡ BARRED)

-- refusal 13 turns away no cost of the matrix
abbrev pub CostsPass : Matrix → Type 0
CostsPass M = Each Passing M.costs
