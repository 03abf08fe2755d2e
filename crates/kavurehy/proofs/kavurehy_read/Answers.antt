-- `kavurehy::kavurehy_read` meets its contract.
use Rattle.kavurehy.specs.BoundsLaws.{read_fits}
use Rattle.kavurehy.proofs.kavurehy_read.Goals as goal

pub hand_reading-requires : goal.hand_reading-requires
hand_reading-requires c = read_fits c.read.ensures
