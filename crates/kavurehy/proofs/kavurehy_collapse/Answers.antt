-- `kavurehy::kavurehy_collapse` meets its contract.
use Rattle.kavurehy.specs.HandedLaws.{fills_counted}
use Rattle.kavurehy.specs.BoundsLaws.{collapse_fits}
use Rattle.kavurehy.proofs.kavurehy_collapse.Goals as goal

pub hand_length-requires : goal.hand_length-requires
hand_length-requires c = collapse_fits _ _ _ c.collapse.ensures

pub returns : goal.returns
returns c = fills_counted c.collapse.ensures c.hand_length.ensures
