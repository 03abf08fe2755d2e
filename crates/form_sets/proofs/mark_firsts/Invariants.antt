-- `form_sets::mark_firsts` meets its contract: the iterations so far have marked their letters.
use Rattle.lists.specs.Marks.{Marks, Iterations}
use Rattle.form_sets.specs.Sets.{Begun}
use Rattle.form_sets.proofs.mark_firsts.Given as goal

abbrev pub invariant-loop-j : goal.invariant-loop-j
invariant-loop-j l = Marks (Iterations (Begun l.form.words.now l.x) 1 l.j) l.initial.set l.set
