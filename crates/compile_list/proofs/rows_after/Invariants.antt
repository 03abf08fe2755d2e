-- `compile_list::rows_after` meets its contract: the letters before i have their rows.
use Rattle.std.proofs.Common.{[]}
use Rattle.lists.proofs.UptoLoops.{Upto}
use Rattle.compile_list.specs.FollowRows.{Followers}
use Rattle.compile_list.proofs.rows_after.Given as goal

abbrev pub invariant-loop-i : goal.invariant-loop-i
invariant-loop-i l = Upto [] (Followers l.letters l.parents l.heads) l.initial.rows l.i l.rows
