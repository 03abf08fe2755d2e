-- `compile_list::row_after` meets its contract: the letters before i are done.
use Rattle.std.proofs.Common.{false, ap, eqb, replicate, arith, get_or-take}
use Rattle.lists.proofs.UptoLoops.{upto_none, upto_set}
use Rattle.compile_list.specs.FollowRows.{Follows}
use Rattle.compile_list.proofs.row_after.Goals as goal

pub loop-i-init : goal.loop-i-init
loop-i-init c = upto_none false (Follows c.args.parents.now c.args.head) (replicate 127 false)

pub bounds-row-i : goal.bounds-row-i
bounds-row-i c = let s = c.loop-i.invariant.size in omega arith

pub loop-i-preserved : goal.loop-i-preserved
loop-i-preserved c =
    let l = c.loop-i in
    let ps = c.args.parents.now in
    upto_set false (Follows ps c.args.head) (replicate 127 false) l.i l.row _ (omega arith) l.invariant
    (ap (λ p. eqb p c.args.head) (get_or-take c.args.letters ps l.i 0 (omega arith)))

pub returns : goal.returns
returns c =
    let l = c.loop-i in
    record { size = l.invariant.size; at = λ i h. l.invariant.done i (omega arith) }
