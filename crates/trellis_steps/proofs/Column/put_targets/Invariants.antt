-- `Column::put_targets` meets its contract: the iterations so far have put the targets of their arcs.
use Rattle.lists.specs.Marks.{Marks, Iterations}
use Rattle.trellis_steps.specs.Steps.{TargetOf}
use Rattle.trellis_steps.specs.Kept.{words, Kept}
use Rattle.trellis_steps.proofs.Column.put_targets.Given as goal

abbrev pub invariant-loop-n : goal.invariant-loop-n
invariant-loop-n l = Marks (Kept l.self (Iterations (TargetOf (words l.self) l.own) l.b l.n)) l.initial.to l.to
