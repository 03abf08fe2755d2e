-- `sheet_decimal::Output::put_bytes` meets its contract: the bytes are where they were copied to.
use Rattle.sheet_decimal.specs.PiecesLaws.{copied}
use Rattle.sheet_decimal.proofs.Output.put_bytes.Goals as goal

pub returns-clause-stored : goal.returns-clause-stored
returns-clause-stored c = rw c.copy_from_slice.ensures.after (copied c.args.bytes.now c.args.self.now.memory.now c.args.self.now.len c.requires)
