-- What is asked of a column holds in one way at most: the facts are equations and inequalities of numbers.
use Rattle.std.specs.Prelude.{ℕ, List}
use Rattle.std.proofs.Props.{props}
use Rattle.trellis_steps.specs.Steps.{ColumnReady}

pub ready-prop : (f column row : List ℕ) (v : ℕ) → IsProp (ColumnReady f column row v)
ready-prop f column row v = Prim.hlevel props
