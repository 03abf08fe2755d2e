-- `sheet_number::read_digits` meets its contract: the first `count` bytes from `at` on are digits with this value.
use Rattle.std.proofs.Common.{◌+◌}
use Rattle.sheet_number.specs.Digits.{Begun}
use Rattle.sheet_number.proofs.read_digits.Given as goal

abbrev pub invariant-loop-count : goal.invariant-loop-count
invariant-loop-count l = Begun l.input l.at (l.at + l.count) l.value
