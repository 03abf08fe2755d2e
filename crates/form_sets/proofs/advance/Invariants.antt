-- `form_sets::advance` meets its contract: the iterations so far have marked what may follow their letters.
use Rattle.std.specs.Prelude.{false, replicate}
use Rattle.lists.specs.Marks.{Marks, Iterations}
use Rattle.form_sets.specs.Loops.{Left}
use Rattle.form_sets.proofs.advance.Given as goal

abbrev pub invariant-loop-i : goal.invariant-loop-i
invariant-loop-i l = Marks (Iterations (Left l.arcs.form.words.now l.x l.set) 0 l.i) (replicate 128 false) l.next
