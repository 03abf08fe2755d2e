-- `positions_build::build` meets its contract.
use Rattle.positions_build.specs.WholeLaws.{build_returns}
use Rattle.positions_build.proofs.build.Goals as goal

pub returns : goal.returns
returns c = build_returns c.args.alphabet.now c.args.text.now c.requires c.alternation.ensures
