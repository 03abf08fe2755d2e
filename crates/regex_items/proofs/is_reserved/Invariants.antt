-- `regex_items::is_reserved` meets its contract: what is left inside decides.
use Rattle.std.proofs.Common.{◌≡◌, drop}
use Rattle.regex_tree.specs.Sets.{reserved}
use Rattle.regex_items.proofs.is_reserved.Given as goal

abbrev pub invariant-loop-i : goal.invariant-loop-i
invariant-loop-i l = reserved (drop l.i l.inside) ≡ reserved l.inside
