-- Definitions by tests: the result of the first case that holds, an option provided that a test holds, and a test that decides a fact.
use Rattle.std.specs.Prelude.{◌≡◌, List, [], ◌∷◌, Bool, true, false}
use Rattle.std.proofs.Math.Option.{Option, none}

-- a result, and the test under which it is taken
pub data Case (R : Type 0) : Type 0 where
  when : Bool → R → Case R

-- the result of the first case whose test holds, or else d
unfoldable pub first_of : {R : Type 0} → List (Case R) → R → R
first_of [] d = d
first_of (when true a ∷ cs) d = a
first_of (when false a ∷ cs) d = first_of cs d

-- x if the test holds, otherwise nothing
unfoldable pub provided : {X : Type 0} → Bool → Option X → Option X
provided true x = x
provided false x = none

-- r is true exactly if P holds
pub record Decides (P : Type 0) (r : Bool) : Type 0 where
  pub holds : r ≡ true → P
  pub found : P → r ≡ true
