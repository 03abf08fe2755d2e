-- `positions_follow::link` meets its contract: the entries below i have their arcs, those from i on are as before.
use Rattle.std.specs.Prelude.{[]}
use Rattle.lists.proofs.UptoLoops.{Upto}
use Rattle.positions_follow.proofs.Loops.{Arcs}
use Rattle.positions_follow.proofs.link.Given as goal

abbrev pub invariant-loop-i : goal.invariant-loop-i
invariant-loop-i l = Upto [] (Arcs l.from l.to l.initial.follow) l.initial.follow l.i l.follow
