-- `form_arcs::list_targets` meets its contract: the targets of the words so far are written.
use Rattle.form_arcs.specs.Targets.{TargetsBelow}
use Rattle.form_arcs.proofs.list_targets.Given as goal

abbrev pub invariant-loop-k : goal.invariant-loop-k
invariant-loop-k l = TargetsBelow l.form.words.now l.initial.targets l.targets l.k
