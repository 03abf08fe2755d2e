-- `decode_checks::all_pass` meets its contract: the fold of the tests is the test of all.
use Rattle.std.specs.Prelude.{true, ◌&&◌}
use Rattle.std.proofs.Common.{rules, ◌∙◌}
use Rattle.std.proofs.lemmas.Iterator.{YieldsList-from_slice}
use Rattle.std.proofs.lemmas.Iterator.Consumers.{fold_from_yields_List}
use borrow.Author.Tests.{tests}
use Rattle.decode_checks.specs.Checks.{passes}
use Rattle.decode_checks.proofs.Loops.{fold_all}
use Rattle.decode_checks.proofs.all_pass.Goals as goal

pub returns : goal.returns
returns c =
    fold_from_yields_List _ (λ pass x. pass && passes x) true c.fold.result c.fold.ensures.ran (YieldsList-from_slice c.args.costs.now (cc)) (λ a x b q k. search (rules, tests))
    ∙ fold_all passes true c.args.costs.now
