-- `vectors_fields::narrow` meets its contract: as many numbers as the loop has passed are written as bytes.
use Rattle.std.proofs.Common.{◌≡◌, arith}
use Rattle.vectors_fields.specs.NarrowLoops.{narrowed_none, narrowed_more, narrowed_all}
use Rattle.vectors_fields.proofs.narrow.Goals as goal

pub loop-i-init : goal.loop-i-init
loop-i-init c = let s = c.args in narrowed_none s.list.now s.n s.bytes.now c.requires

pub loop-i-preserved : goal.loop-i-preserved
loop-i-preserved c =
    let l = c.loop-i in
    let a = c.args in
    let m = c.min-count.ensures in
    narrowed_more a.list.now a.n a.bytes.now c.requires l.bytes l.i (omega arith) (omega arith) l.invariant

pub returns-clause-wrote : goal.returns-clause-wrote
returns-clause-wrote c =
    let l = c.loop-i in
    let a = c.args in
    let m = c.min-count.ensures in
    let e : l.i ≡ c.min-count.result = omega arith in
    narrowed_all a.list.now a.n a.bytes.now c.requires l.bytes c.min-count.result (omega arith) (rw e at l.invariant)
