-- `States::clear` meets its contract: the iterations so far have taken out the members before the index.
use Rattle.trellis_members.specs.Loops.{TakenOut}
use Rattle.trellis_members.proofs.States.clear.Given as goal

-- `.1.0` is the field `set`
abbrev pub invariant-loop-u : goal.invariant-loop-u
invariant-loop-u l = TakenOut l.u-items l.u-index l.fn.self l.self-inside.1.0
