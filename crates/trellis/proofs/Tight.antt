-- The steps of the trace: those that lie on a cheapest way, and the lowest label of them.
use Rattle.std.specs.Prelude.{ℕ, ◌≤◌, ◌≡◌}
use Rattle.matrix.specs.Matrix.{Matrix, cost}
use Rattle.trellis.specs.Graph.{Graph}
use Rattle.trellis.specs.Impossible.{plus}

module _ {S : Type 0} (G : Graph S) (M : Matrix) where
  -- a step from the set to state s by label x in column t is tight if its cost and the cost to go from s, by the next row, add up to v
  pub record Tight (t : ℕ) (row : S → ℕ) (In : S → Type 0) (v x : ℕ) (s : S) : Type 0 where
    pub from : S
    pub member : In from
    pub step : G.Step from x s
    pub keeps : plus (cost M t x) (row s) ≡ v

  -- x is the lowest label of a tight step, and the second set has the states that the tight steps by x lead to
  pub record Chosen (t : ℕ) (row : S → ℕ) (In : S → Type 0) (v x : ℕ) (In' : S → Type 0) : Type 0 where
    pub lowest : (y : ℕ) (s : S) → Tight t row In v y s → x ≤ y
    pub one : S
    pub by_x : Tight t row In v x one
    pub hit : (s : S) → In' s → Tight t row In v x s
    pub all : (s : S) → Tight t row In v x s → In' s
