-- `trellis_column::put_blanks` meets its contract: the iterations so far have put their blanks.
use Rattle.lists.specs.Marks.{Marks, Iterations}
use Rattle.trellis_column.specs.Column.{BlankAt}
use Rattle.trellis_column.proofs.put_blanks.Given as goal

abbrev pub invariant-loop-s : goal.invariant-loop-s
invariant-loop-s l = Marks (Iterations (BlankAt l.column.row.now l.left l.s-items) 0 l.s-index) l.initial.to l.to
