-- `trellis_column::lowest` meets its contract: the loop has the lowest of the labels so far.
use Rattle.std.proofs.Common.{MatchOption, ◌≡◌}
use Rattle.lists.specs.Least.{Among}
use Rattle.trellis_steps.specs.Kept.{graph}
use Rattle.trellis_column.specs.Column.{LabelAt, Lowest}
use Rattle.trellis_column.proofs.lowest.Given as goal

abbrev pub invariant-loop-s : goal.invariant-loop-s
invariant-loop-s l = MatchOption l.lowest (l.s-index ≡ 0) (Lowest (Among 0 l.s-index (LabelAt (graph l.column) l.s-items)))
