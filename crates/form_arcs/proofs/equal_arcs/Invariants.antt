-- `form_arcs::equal_arcs` meets its contract: the iterations so far have marked their letters.
use Rattle.std.specs.Prelude.{false, replicate}
use Rattle.lists.specs.Marks.{Marks, Iterations}
use Rattle.form_arcs.specs.Equal.{SharesAt}
use Rattle.form_arcs.proofs.equal_arcs.Given as goal

abbrev pub invariant-loop-i : goal.invariant-loop-i
invariant-loop-i l = Marks (Iterations (SharesAt l.arcs.form.words.now l.arcs.starts) 2 l.i) (replicate 128 false) l.same
