-- `trellis_table::fill_last` meets its contract: the states so far are written.
use Rattle.trellis_table.specs.LastLoops.{LastBelow}
use Rattle.trellis_table.proofs.fill_last.Given as goal

abbrev pub invariant-loop-s : goal.invariant-loop-s
invariant-loop-s l = LastBelow l.form.words.now l.initial.work l.work l.base l.s
