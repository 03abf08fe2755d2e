-- `ctc_collapse::write_collapse` meets its contract: what is written, and what the rest of the path adds after the last label, make the
-- whole.
use Prim.Native.Nat.{◌+◌}
use mathlib.Core.Path.{subst}
use native.Mathlib.Omega.{arith}
use lib.ListN.{get_or, drop}
use Rattle.lists.proofs.FillingLoops.{Filling, filling_none, filling_stored, filling_room, filling_all}
use Rattle.ctc.specs.Collapse.{collapse}
use Rattle.ctc.proofs.CollapseLaws.{after, collapse_after, collapse_shorter}
use Rattle.ctc_collapse.specs.Added.{added}
use Rattle.ctc_collapse.proofs.Loops.{after_step, after_end}
use Rattle.ctc_collapse.proofs.write_collapse.Goals as goal

pub loop-x-init : goal.loop-x-init
loop-x-init c =
    let p = c.args.path.now in
    let w = c.args.word.now in
    let s = collapse_shorter p in
    subst (λ t. Filling (collapse p) w w t 0) (collapse_after p) (filling_none (collapse p) w (omega arith))

pub put_added-n-requires : goal.put_added-n-requires
put_added-n-requires c =
    let p = c.args.path.now in
    let l = c.loop-x in
    let x = get_or p l.x-index 0 in
    filling_room (collapse p) c.args.word.now (added l.a x) l.word (after x (drop (l.x-index + 1) p)) l.n
    (rw (after_step l.a p l.x-index c.loop-x-test.true) at l.invariant)

pub loop-x-preserved : goal.loop-x-preserved
loop-x-preserved c =
    let p = c.args.path.now in
    let l = c.loop-x in
    let x = get_or p l.x-index 0 in
    let put = c.put_added-n in
    filling_stored (collapse p) c.args.word.now (added l.a x) l.word put.new.word (after x (drop (l.x-index + 1) p)) l.n put.result
    (rw (after_step l.a p l.x-index c.loop-x-test.true) at l.invariant) put.ensures

pub returns : goal.returns
returns c =
    let l = c.loop-x in
    let p = c.args.path.now in
    filling_all (collapse p) c.args.word.now l.word l.n (rw (after_end l.a p l.x-index (omega arith)) at l.invariant)
