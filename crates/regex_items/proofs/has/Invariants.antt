-- `regex_items::has` meets its contract: the byte is in no item before i, and the items from i on decide.
use Prim.Native.Nat.{◌-◌}
use mathlib.Core.Path.{◌≡◌}
use mathlib.Core.Bool.{true}
use lib.ListN.{length}
use Rattle.lists.specs.Options.{is_some, listed}
use Rattle.regex_tree.specs.Tree.{among}
use Rattle.regex_items.specs.Items.{left, resolved}
use Rattle.regex_items.specs.LeftLoops.{Inner}
use Rattle.regex_items.proofs.has.Given as goal

abbrev pub invariant-loop-i : goal.invariant-loop-i
invariant-loop-i l =
    Inner l.text l.first l.i
    × (is_some (resolved (left l.text l.first l.i)) ≡ true)
    × (among (listed (resolved (left l.text l.first l.i))) l.b ≡ among (listed (resolved (left l.text l.first l.first))) l.b)

abbrev pub decreases-loop-i : goal.decreases-loop-i
decreases-loop-i l = length l.text - l.i
