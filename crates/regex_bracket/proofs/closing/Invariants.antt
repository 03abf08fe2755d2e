-- `regex_bracket::closing` meets its contract: the closing `]` from i on is that of the bracket.
use Prim.Native.Nat.{◌≤◌, ◌-◌}
use mathlib.Core.Path.{◌≡◌}
use mathlib.Core.Bool.{true}
use lib.ListN.{length, drop}
use lib.Dec.{eqb}
use Rattle.regex_tree.specs.Sets.{closed}
use Rattle.regex_bracket.specs.Answers.{after}
use Rattle.regex_bracket.proofs.closing.Given as goal

abbrev pub invariant-loop-i : goal.invariant-loop-i
invariant-loop-i l = (l.first ≤ l.i) × (after (closed (eqb l.i l.first) (drop l.i l.text)) ≡ after (closed true (drop l.first l.text)))

abbrev pub decreases-loop-i : goal.decreases-loop-i
decreases-loop-i l = length l.text - l.i
