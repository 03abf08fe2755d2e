-- `confidence::costs` meets its contract: the check, or the costs written.
use mathlib.Core.Path.{refl}
use mathlib.Core.List.{map}
use lib.ListN.{length}
use borrow.Author.Rules.{rules}
use Rattle.refusal.specs.declared.Refusal.TheVariants.{OutputMemory}
use Rattle.refusal.proofs.ReportLaws.{fills_refused, fills_wrote}
use Rattle.lists.specs.Lists.{numbers}
use Rattle.confidence_rule.specs.Cost.{largest, shift, cost_of}
use Rattle.confidence.specs.Cost.{costs_call}
use Rattle.confidence.proofs.CostLaws.{costs_passed, costs_refused}
use Rattle.confidence.specs.Table.{all_costs}
use Rattle.confidence.proofs.costs.Goals as goal

pub returns-then-costs-confidences : goal.returns-then-costs-confidences
returns-then-costs-confidences c =
    let f = c.args.confidences.now in
    let m = c.args.costs.now in
    fills_refused (costs_call f (length m)) OutputMemory m (costs_refused f (length m) (search rules))

-- the table in the code is tested here as a whole: it computes to the list of the rule's costs
pub write_costs-requires : goal.write_costs-requires
unfolding all_costs numbers cost_of shift largest
write_costs-requires c = (refl, search rules)

pub returns : goal.returns
returns c =
    let f = c.args.confidences.now in
    let m = c.args.costs.now in
    let wrote = c.write_costs in
    fills_wrote (costs_call f (length m)) (map cost_of f) m wrote.new.costs wrote.result
    (costs_passed f (length m) (search rules))
    wrote.ensures
