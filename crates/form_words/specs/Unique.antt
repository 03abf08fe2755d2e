-- A list is a valid form in one way at most: the facts are equations and inequalities of numbers.
use Rattle.std.specs.Prelude.{ℕ, List}
use Rattle.std.proofs.Props.{props}
use Rattle.automaton.specs.Valid.{Valid}

pub valid-prop : (f : List ℕ) → IsProp (Valid f)
valid-prop f = Prim.hlevel props
