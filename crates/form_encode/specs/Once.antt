-- Arrays have an entry for each letter in one way at most: the facts are inequalities of numbers.
use Rattle.std.specs.Prelude.{ℕ, Bool, List}
use Rattle.std.proofs.Props.{props}
use Rattle.automaton.specs.Arrays.{Sized}

pub sized-prop : (k l : ℕ) (labels : List ℕ) (first last : List Bool) (follow : List (List Bool)) → IsProp (Sized k l labels first last follow)
sized-prop k l labels first last follow = Prim.hlevel props
