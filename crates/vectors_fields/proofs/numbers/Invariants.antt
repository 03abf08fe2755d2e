-- `vectors_fields::numbers` meets its contract: what is written and the numbers still to come are all for which there is room.
use Prim.Native.Nat.{◌≤◌}
use lib.ListN.{length}
use Rattle.vectors_fields.specs.NumbersLoops.{Read}
use Rattle.vectors_fields.proofs.numbers.Given as goal

abbrev pub invariant-loop-b : goal.invariant-loop-b
invariant-loop-b l = (l.b-index ≤ length l.field) × Read l.hexadecimal l.field l.initial.list l.list l.b-index l.n l.v
