-- `trellis_table::fill_columns` meets its contract: the rows from that of column t on are written.
use Rattle.matrix.specs.View.{value}
use Rattle.trellis_table.specs.Fill.{RowsFilled}
use Rattle.trellis_table.proofs.fill_columns.Given as goal

abbrev pub invariant-loop-t : goal.invariant-loop-t
invariant-loop-t l = RowsFilled l.lookups.arcs.now.form.words.now (value l.matrix) l.initial.work l.work l.stride l.t
