-- `Column::put_kept` meets its contract: the iterations so far have put what steps from their states lead to.
use Rattle.lists.specs.Marks.{Marks, Iterations}
use Rattle.trellis_steps.specs.Steps.{From}
use Rattle.trellis_steps.specs.Kept.{graph, Kept}
use Rattle.trellis_steps.proofs.Column.put_kept.Given as goal

abbrev pub invariant-loop-s : goal.invariant-loop-s
invariant-loop-s l = Marks (Kept l.self (Iterations (From (graph l.self) l.from) 0 l.s-index)) l.initial.to l.to
