-- `form_arcs::same_targets` meets its contract: the words that were compared have equal targets.
use Rattle.form_arcs.specs.Equal.{SameTargets}
use Rattle.form_arcs.proofs.same_targets.Given as goal

abbrev pub invariant-loop-k : goal.invariant-loop-k
invariant-loop-k l = SameTargets l.form.words.now l.a l.b l.k
