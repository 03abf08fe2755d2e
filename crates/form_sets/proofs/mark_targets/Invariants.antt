-- `form_sets::mark_targets` meets its contract: the iterations so far have marked the targets of their arcs.
use Rattle.lists.specs.Marks.{Marks, Iterations}
use Rattle.form_sets.specs.Sets.{Reached}
use Rattle.form_sets.proofs.mark_targets.Given as goal

abbrev pub invariant-loop-n : goal.invariant-loop-n
invariant-loop-n l = Marks (Iterations (Reached l.form.words.now l.x) l.b l.n) l.initial.set l.set
