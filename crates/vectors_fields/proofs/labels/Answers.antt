-- `vectors_fields::labels` meets its contract.
use Rattle.vectors_fields.specs.NarrowLoops.{wrote_front}
use Rattle.vectors_fields.proofs.labels.Goals as goal

pub returns-clause-wrote : goal.returns-clause-wrote
returns-clause-wrote c = rw (wrote_front c.numbers-n.ensures.wrote) at c.narrow.ensures.wrote
