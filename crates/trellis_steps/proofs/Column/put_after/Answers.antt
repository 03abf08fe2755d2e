-- `Column::put_after` meets its contract: the first letters, or the targets of the letter's arcs.
use Prim.Native.Nat.{◌+◌}
use native.Mathlib.Omega.{arith}
use lib.ListN.{get_or}
use Rattle.form_starts.specs.Loops.{range_rises}
use Rattle.trellis_steps.specs.Loops.{targets_put}
use Rattle.trellis_steps.specs.Kept.{words}
use Rattle.trellis_steps.proofs.Column.put_after.Goals as goal

pub put_targets-requires : goal.put_targets-requires
put_targets-requires c =
    let s = c.args.self.now in
    let i = c.args.i in
    let few = s.arcs.now.form.valid.head.letters_high in
    let first = s.arcs.now.placed.starts i (omega arith) in
    let next = s.arcs.now.placed.starts (i + 1) (omega arith) in
    (first.past, range_rises (words s) i (get_or s.arcs.now.starts i 0) (get_or s.arcs.now.starts (i + 1) 0) first next, next.inside)

pub returns-else-i-eq0 : goal.returns-else-i-eq0
returns-else-i-eq0 c =
    let a = c.args in
    let s = a.self.now in
    let few = s.arcs.now.form.valid.head.letters_high in
    let first = s.arcs.now.placed.starts a.i (omega arith) in
    let next = s.arcs.now.placed.starts (a.i + 1) (omega arith) in
    targets_put (words s) s.costs.now s.row.now s.left s.arcs.now.form.valid a.own a.to.now c.put_targets.new.to a.i (get_or s.arcs.now.starts a.i 0)
    (get_or s.arcs.now.starts (a.i + 1) 0) (omega arith) first next c.put_targets.ensures
