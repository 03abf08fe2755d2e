-- `compile_list::rows_after` meets its contract: the letters before i have their rows.
use Rattle.std.proofs.Common.{[], subst, arith, get_or-take}
use Rattle.lists.proofs.UptoLoops.{upto_none, upto_set}
use Rattle.compile_list.specs.FollowRows.{RowAfter, Followers}
use Rattle.compile_list.proofs.rows_after.Goals as goal

pub loop-i-init : goal.loop-i-init
loop-i-init c = upto_none [] (Followers c.args.letters c.args.parents.now c.args.heads.now) c.args.rows.now

pub bounds-rows-i : goal.bounds-rows-i
bounds-rows-i c = let s = c.loop-i.invariant.size in omega arith

pub loop-i-preserved : goal.loop-i-preserved
loop-i-preserved c =
    let l = c.loop-i in
    let n = c.args.letters in
    let ps = c.args.parents.now in
    let hs = c.args.heads.now in
    let row = c.row_after.result in
    upto_set [] (Followers n ps hs) c.args.rows.now l.i l.rows row (omega arith) l.invariant
    (subst (λ h. RowAfter n ps h row) (get_or-take n hs l.i 0 (omega arith)) c.row_after.ensures)

pub returns : goal.returns
returns c =
    let l = c.loop-i in
    let s = l.invariant.size in
    record { size = omega arith; row = λ i h. l.invariant.done i (omega arith) }
