-- `confidence::cost` meets its contract: the entry of a byte in the rule's table is its cost.
use mathlib.Core.Path.{ap, ◌∙◌}
use lib.ListN.{get_or}
use borrow.Author.Rules.{rules}
use Rattle.confidence.proofs.TableLaws.{entry}
use Rattle.confidence.proofs.cost.Goals as goal

pub returns : goal.returns
returns c = rw c.from.ensures (ap (λ t. get_or t c.args.c 0) c.requires ∙ entry c.args.c (search rules))
