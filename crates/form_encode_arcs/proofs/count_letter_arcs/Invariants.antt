-- `form_encode_arcs::count_letter_arcs` meets its contract: the letters counted and those still to come make the whole.
use Prim.Native.Nat.{◌+◌, ◌<◌}
use mathlib.Core.Path.{◌≡◌}
use lib.ListN.{length}
use Rattle.lists.specs.Lists.{keep, numbers}
use Rattle.automaton.specs.Arrays.{has}
use Rattle.lists.proofs.RemainingLoops.{from}
use Rattle.form_encode_arcs.proofs.count_letter_arcs.Given as goal

abbrev pub invariant-loop-j : goal.invariant-loop-j
invariant-loop-j l =
    (l.n < l.j) × (l.n + length (keep (has l.targets) (from l.letters l.j)) ≡ length (keep (has l.targets) (numbers 1 l.letters)))
