-- Each entry of the table is the cost of its confidence.
use Rattle.std.specs.Prelude.{ℕ, ◌<◌, ◌≡◌, get_or}
use Rattle.std.proofs.Common.{ap, ◌∙◌, arith}
use Rattle.lists.proofs.AscendingLaws.{map_numbers_at}
use Rattle.confidence_rule.specs.Cost.{cost_of}
use Rattle.confidence.specs.Table.{all_costs}

pub entry : (c : ℕ) → c < 256 → get_or all_costs c 0 ≡ cost_of c
unfolding all_costs
entry c l = map_numbers_at cost_of 0 256 c 0 l ∙ ap cost_of (omega arith)
