-- `positions_follow::unite` meets its contract: below i the set is the union, from i on it is as before.
use Rattle.std.specs.Prelude.{false}
use Rattle.lists.proofs.UptoLoops.{Upto}
use Rattle.positions_follow.proofs.Loops.{Either}
use Rattle.positions_follow.proofs.unite.Given as goal

abbrev pub invariant-loop-i : goal.invariant-loop-i
invariant-loop-i l = Upto false (Either l.initial.a l.b) l.initial.a l.i l.a
