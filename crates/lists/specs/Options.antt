-- Whether something was found, and the list that was.
use Rattle.std.proofs.Math.Option.{Option, some, none}
use Rattle.std.specs.Prelude.{List, [], Bool, true, false}

abbrev pub is_some : {X : Type 0} → Option X → Bool
is_some none = false
is_some (some x) = true

abbrev pub listed : {X : Type 0} → Option (List X) → List X
listed none = []
listed (some xs) = xs
