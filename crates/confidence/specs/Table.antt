-- The table that the rule gives: the costs of all bytes, in order.
use Rattle.std.specs.Prelude.{ℕ, List, map}
use Rattle.lists.specs.Lists.{numbers}
use Rattle.confidence_rule.specs.Cost.{cost_of}

unfoldable pub all_costs : List ℕ
all_costs = map cost_of (numbers 0 256)
