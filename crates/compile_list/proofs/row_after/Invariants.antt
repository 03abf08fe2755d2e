-- `compile_list::row_after` meets its contract: the letters before i are done.
use Rattle.std.proofs.Common.{false, replicate}
use Rattle.lists.proofs.UptoLoops.{Upto}
use Rattle.compile_list.specs.FollowRows.{Follows}
use Rattle.compile_list.proofs.row_after.Given as goal

abbrev pub invariant-loop-i : goal.invariant-loop-i
invariant-loop-i l = Upto false (Follows l.parents l.head) (replicate 127 false) l.i l.row
