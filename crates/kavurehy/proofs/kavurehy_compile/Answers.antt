-- `kavurehy::kavurehy_compile` meets its contract.
use Rattle.kavurehy.specs.HandedLaws.{fills_counted}
use Rattle.kavurehy.specs.BoundsLaws.{compile_fits}
use Rattle.kavurehy.proofs.kavurehy_compile.Goals as goal

pub hand_length-requires : goal.hand_length-requires
hand_length-requires c = compile_fits _ _ _ c.compile.ensures

pub returns : goal.returns
returns c = fills_counted c.compile.ensures c.hand_length.ensures
