-- `regex_items::are_known` meets its contract: the items from i on decide.
use Prim.Native.Nat.{◌-◌}
use mathlib.Core.Path.{◌≡◌}
use mathlib.Core.Bool.{true}
use lib.ListN.{length}
use Rattle.lists.specs.Options.{is_some}
use Rattle.regex_items.specs.Items.{left, resolved}
use Rattle.regex_items.specs.LeftLoops.{Inner}
use Rattle.regex_items.proofs.are_known.Given as goal

abbrev pub invariant-loop-i : goal.invariant-loop-i
invariant-loop-i l =
    Inner l.text l.first l.i
    × (is_some (left l.text l.first l.i) ≡ true)
    × (is_some (resolved (left l.text l.first l.i)) ≡ is_some (resolved (left l.text l.first l.first)))

abbrev pub decreases-loop-i : goal.decreases-loop-i
decreases-loop-i l = length l.text - l.i
