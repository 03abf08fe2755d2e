-- `ctc_spread::write_spread` meets its contract: what is written, and the spread of the rest after the last letter, make the whole.
use Prim.Native.Nat.{◌+◌}
use mathlib.Core.Path.{subst}
use native.Mathlib.Omega.{arith}
use lib.ListN.{get_or, drop}
use Rattle.lists.proofs.FillingLoops.{Filling, filling_none, filling_stored, filling_room, filling_all}
use Rattle.ctc.specs.Spread.{spread}
use Rattle.ctc.proofs.SpreadLaws.{spread_after, spread_from}
use Rattle.ctc_spread.specs.Spaced.{spaced}
use Rattle.ctc_spread.proofs.Loops.{spread_step, spread_end}
use Rattle.ctc_spread.proofs.write_spread.Goals as goal

pub loop-x-init : goal.loop-x-init
loop-x-init c =
    let w = c.args.word.now in
    let p = c.args.path.now in
    subst (λ t. Filling (spread w) p p t 0) (spread_from w c.requires.1) (filling_none (spread w) p c.requires.0)

pub put_spaced-n-requires : goal.put_spaced-n-requires
put_spaced-n-requires c =
    let w = c.args.word.now in
    let l = c.loop-x in
    let x = get_or w l.x-index 0 in
    filling_room (spread w) c.args.path.now (spaced l.a x) l.path (spread_after x (drop (l.x-index + 1) w)) l.n
    (rw (spread_step l.a w l.x-index c.loop-x-test.true) at l.invariant)

pub loop-x-preserved : goal.loop-x-preserved
loop-x-preserved c =
    let w = c.args.word.now in
    let l = c.loop-x in
    let x = get_or w l.x-index 0 in
    let put = c.put_spaced-n in
    filling_stored (spread w) c.args.path.now (spaced l.a x) l.path put.new.path (spread_after x (drop (l.x-index + 1) w)) l.n put.result
    (rw (spread_step l.a w l.x-index c.loop-x-test.true) at l.invariant) put.ensures

pub returns : goal.returns
returns c =
    let w = c.args.word.now in
    let l = c.loop-x in
    filling_all (spread w) c.args.path.now l.path l.n (rw (spread_end l.a w l.x-index (omega arith)) at l.invariant)
