-- `trellis_column::put_of_label` meets its contract: the iterations so far have put their states.
use Rattle.lists.specs.Marks.{Marks, Iterations}
use Rattle.trellis_steps.specs.Kept.{graph}
use Rattle.trellis_column.specs.Column.{PicksAt}
use Rattle.trellis_column.proofs.put_of_label.Given as goal

abbrev pub invariant-loop-s : goal.invariant-loop-s
invariant-loop-s l = Marks (Iterations (PicksAt (graph l.column) l.x l.s-items) 0 l.s-index) l.initial.to l.to
