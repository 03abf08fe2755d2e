-- `regex_signs::name_end` meets its contract: the nearest `:]` from i on is the nearest one from the start on.
use Prim.Native.Nat.{◌+◌}
use mathlib.Core.Path.{◌≡◌}
use lib.ListN.{length, drop}
use Rattle.regex_signs.specs.Signs.{name}
use Rattle.regex_signs.proofs.name_end.Given as goal

abbrev pub invariant-loop-i : goal.invariant-loop-i
invariant-loop-i l = l.i + length (name (drop l.i l.text)) ≡ l.from + length (name (drop l.from l.text))
