-- `kavurehy::kavurehy_spread` meets its contract.
use Rattle.kavurehy.specs.HandedLaws.{fills_counted}
use Rattle.kavurehy.specs.BoundsLaws.{spread_fits}
use Rattle.kavurehy.proofs.kavurehy_spread.Goals as goal

pub hand_length-requires : goal.hand_length-requires
hand_length-requires c = spread_fits _ _ _ c.spread.ensures

pub returns : goal.returns
returns c = fills_counted c.spread.ensures c.hand_length.ensures
