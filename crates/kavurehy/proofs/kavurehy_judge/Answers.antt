-- `kavurehy::kavurehy_judge` meets its contract.
use Rattle.kavurehy.proofs.kavurehy_judge.Goals as goal

pub returns : goal.returns
returns c = rw c.judge.ensures at c.hand_judgement.ensures
