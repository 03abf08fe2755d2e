-- `sheet_columns::store_column` meets its contract: its answer from place i on, with the costs so far, is its answer from the start.
use Rattle.std.proofs.Common.{◌≡◌, ℕ, ◌-◌, ◌≤◌, Option, List, length}
use Rattle.sheet_columns.specs.declared.Column.{Column}
use Rattle.sheet_columns.specs.Storing.{StoredColumn}
use Rattle.sheet_columns.proofs.store_column.Given as goal

abbrev pub invariant-loop-cost : goal.invariant-loop-cost
invariant-loop-cost l =
    (l.end ≤ length l.input) × (l.filled ≤ 16384) × (length l.costs ≡ length l.initial.costs)
    × ((after : List ℕ) (r : Option Column) → StoredColumn l.input l.end l.filled l.costs after r → StoredColumn l.input l.at l.m l.initial.costs after r)

abbrev pub decreases-loop-cost : goal.decreases-loop-cost
decreases-loop-cost l = length l.input - l.end
