-- `vectors_fields::narrow` meets its contract: as many numbers as the loop has passed are written as bytes.
use Rattle.vectors_fields.specs.NarrowLoops.{Narrowed}
use Rattle.vectors_fields.proofs.narrow.Given as goal

abbrev pub invariant-loop-i : goal.invariant-loop-i
invariant-loop-i l = Narrowed l.list l.n l.initial.bytes l.bytes l.i
