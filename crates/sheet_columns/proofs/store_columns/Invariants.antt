-- `sheet_columns::store_columns` meets its contract: its answer from place i on, with the columns so far, is its answer from the start.
use Rattle.std.proofs.Common.{◌≡◌, ℕ, ◌+◌, ◌-◌, ◌≤◌, Option, List, length}
use Rattle.sheet_columns.specs.Storing.{StoredColumns}
use Rattle.sheet_columns.proofs.store_columns.Given as goal

abbrev pub invariant-loop-end : goal.invariant-loop-end
invariant-loop-end l =
    (l.end ≤ length l.input) × (l.filled ≤ 16384) × (l.count ≤ l.filled + 1) × (length l.costs ≡ length l.initial.costs)
    × ((after : List ℕ) (r : Option ℕ) → StoredColumns l.width l.input l.end l.filled l.count l.costs after r → StoredColumns l.width l.input l.at l.width 1 l.initial.costs after r)

abbrev pub decreases-loop-end : goal.decreases-loop-end
decreases-loop-end l = length l.input - l.end
