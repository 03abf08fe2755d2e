-- `form_encode_arcs::count_arcs` meets its contract: the arcs counted and those of the letters still to come make the whole.
use Prim.Native.Nat.{◌+◌, ◌*◌, ◌≤◌}
use mathlib.Core.Path.{◌≡◌}
use mathlib.Core.List.{flat_map}
use lib.ListN.{length}
use Rattle.form_encode_arcs.specs.Arcs.{letter_arcs_at, arcs_by}
use Rattle.lists.proofs.RemainingLoops.{from}
use Rattle.form_encode_arcs.proofs.count_arcs.Given as goal

abbrev pub invariant-loop-i : goal.invariant-loop-i
invariant-loop-i l =
    (l.n + 127 ≤ 127 * l.i) × (l.n + length (flat_map (letter_arcs_at l.letters l.follow) (from l.letters l.i)) ≡ length (arcs_by l.letters l.follow))
