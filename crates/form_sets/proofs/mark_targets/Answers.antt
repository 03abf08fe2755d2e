-- `form_sets::mark_targets` meets its contract: the iterations so far have marked the targets of their arcs.
use Rattle.std.proofs.Common.{arith}
use Rattle.lists.proofs.MarksLaws.{iterations_more}
use Rattle.form_sets.specs.Sets.{Reached}
use Rattle.form_sets.proofs.mark_targets.Goals as goal

pub loop-n-preserved : goal.loop-n-preserved
loop-n-preserved c =
    let a = c.args in
    let l = c.loop-n in
    iterations_more (Reached a.form.words.now a.x) a.b l.n a.set.now l.set c.mark.new.set (omega arith) l.invariant (rw c.target.ensures at c.mark.ensures)
