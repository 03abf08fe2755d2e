-- `Column::put_firsts` meets its contract: the iterations so far have put their letters.
use Rattle.lists.specs.Marks.{Marks, Iterations}
use Rattle.trellis_steps.specs.Steps.{Led}
use Rattle.trellis_steps.specs.Kept.{graph, Kept}
use Rattle.trellis_steps.proofs.Column.put_firsts.Given as goal

abbrev pub invariant-loop-j : goal.invariant-loop-j
invariant-loop-j l = Marks (Kept l.self (Iterations (Led (graph l.self) l.own 0) 1 l.j)) l.initial.to l.to
