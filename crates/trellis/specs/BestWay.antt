-- The best way from a set of states: the cheapest, and the first by labels among equals.
use Rattle.std.specs.Prelude.{ℕ, ◌≡◌, List, length}
use Rattle.outcome.specs.Best.{BestOf}
use Rattle.matrix.specs.Matrix.{Matrix, price_from}
use Rattle.outcome.specs.Order.{NotAfter}
use Rattle.trellis.specs.Graph.{Graph, Way}

-- p is a way of n labels from a state of the set
pub record WayFrom {S : Type 0} (G : Graph S) (n : ℕ) (In : S → Type 0) (p : List ℕ) : Type 0 where
  pub long : length p ≡ n
  pub from : S
  pub member : In from
  pub way : Way G from p

module _ {S : Type 0} (G : Graph S) (M : Matrix) where
  -- the best of these ways, its first label in column t
  abbrev pub BestFrom : (t n : ℕ) → (S → Type 0) → List ℕ → Type 0
  BestFrom t n In = BestOf (WayFrom G n In) (price_from M t) NotAfter
