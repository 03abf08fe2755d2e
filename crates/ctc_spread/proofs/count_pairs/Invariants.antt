-- `ctc_spread::count_pairs` meets its contract: the pairs counted and those of the rest make the whole.
use Prim.Native.Nat.{◌+◌, ◌≤◌}
use mathlib.Core.Path.{◌≡◌}
use lib.ListN.{drop}
use Rattle.ctc.specs.Spread.{pairs}
use Rattle.ctc_spread.proofs.count_pairs.Given as goal

abbrev pub invariant-loop-i : goal.invariant-loop-i
invariant-loop-i l = (l.n ≤ l.i) × (l.n + pairs (drop l.i l.word) ≡ pairs l.word)
