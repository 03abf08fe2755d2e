-- The cost to go from a state: the least price of all ways from it over the columns that are left, or TOP where none costs less.
use Rattle.std.specs.Prelude.{ℕ, ◌≡◌, List, length}
use Rattle.lists.specs.Least.{Least}
use Rattle.matrix.specs.Matrix.{Matrix, price_from}
use Rattle.trellis.specs.Graph.{Graph, Way}
use Rattle.trellis.specs.Impossible.{TOP}

module _ {S : Type 0} (G : Graph S) (M : Matrix) where
  -- v is the price of a way of n labels from state s, its first label in column t
  pub record WayOf (t n : ℕ) (s : S) (v : ℕ) : Type 0 where
    pub path : List ℕ
    pub long : length path ≡ n
    pub way : Way G s path
    pub paid : price_from M t path ≡ v

  abbrev pub CostToGo : (t n : ℕ) → S → ℕ → Type 0
  CostToGo t n s v = Least TOP (WayOf t n s) v
