-- `form_sets::mark_after` meets its contract: the letters that may be first, or the targets of the arcs.
use Rattle.std.specs.Prelude.{◌+◌, ◌≤◌}
use Rattle.std.proofs.Common.{arith}
use Rattle.form_starts.specs.Loops.{range_rises}
use Rattle.form_sets.specs.Loops.{all_reached}
use Rattle.form_sets.proofs.mark_after.Goals as goal

pub mark_targets-requires : goal.mark_targets-requires
mark_targets-requires c =
    let a = c.args in
    let arcs = a.arcs.now in
    let few = arcs.form.valid.head.letters_high in
    let p = c.requires in
    let first = arcs.placed.starts a.i (omega arith) in
    let next = arcs.placed.starts (a.i + 1) (omega arith) in
    let past = first.past in
    let rises = range_rises arcs.form.words.now a.i _ _ first next in
    let inside = next.inside in
    (p.0, omega arith, omega arith, omega arith)

pub returns-else-i-eq0 : goal.returns-else-i-eq0
returns-else-i-eq0 c =
    let a = c.args in
    let arcs = a.arcs.now in
    let few = arcs.form.valid.head.letters_high in
    let p = c.requires in
    let some : 1 ≤ a.i = omega (arith, c.if-i-eq0.false) in
    all_reached arcs.form.words.now a.x a.set.now c.mark_targets.new.set a.i _ _ some (arcs.placed.starts a.i (omega arith))
    (arcs.placed.starts (a.i + 1) (omega arith)) c.mark_targets.ensures
