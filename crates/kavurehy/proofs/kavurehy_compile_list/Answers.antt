-- `kavurehy::kavurehy_compile_list` meets its contract.
use Rattle.kavurehy.specs.HandedLaws.{fills_counted}
use Rattle.kavurehy.specs.BoundsLaws.{list_fits}
use Rattle.kavurehy.proofs.kavurehy_compile_list.Goals as goal

pub hand_length-requires : goal.hand_length-requires
hand_length-requires c = list_fits _ _ _ c.compile_list.ensures

pub returns : goal.returns
returns c = fills_counted c.compile_list.ensures c.hand_length.ensures
