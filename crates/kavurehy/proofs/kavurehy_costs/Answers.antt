-- `kavurehy::kavurehy_costs` meets its contract.
use Rattle.kavurehy.specs.HandedLaws.{fills_plain}
use Rattle.kavurehy.proofs.kavurehy_costs.Goals as goal

pub returns : goal.returns
returns c = fills_plain c.costs.ensures c.hand_number.ensures
