-- `vectors_fields::start` meets its contract: the field wanted is a field of the line from `at` on.
use mathlib.Core.Path.{◌≡◌}
use Prim.Native.Nat.{◌-◌, ◌≤◌}
use lib.ListN.{length, drop}
use Rattle.vectors_fields.specs.Fields.{field_of}
use Rattle.vectors_fields.proofs.start.Given as goal

abbrev pub invariant-loop : goal.invariant-loop
invariant-loop l = (l.at ≤ length l.line) × (l.counter ≤ l.k) × (field_of (drop l.at l.line) (l.k - l.counter) ≡ field_of l.line l.k)
