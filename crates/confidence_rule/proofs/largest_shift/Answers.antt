-- `confidence_rule::largest_shift` meets its contract.
use Rattle.std.proofs.Common.{◌∙◌, ap, arith}
use lib.Count.{count_leading_zeros}
use Rattle.confidence_rule.proofs.Zeros.{shift_zeros}
use Rattle.confidence_rule.proofs.largest_shift.Goals as goal

pub returns : goal.returns
returns c = ap (count_leading_zeros 64) c.saturating_sub.ensures ∙ shift_zeros c.args.p (omega arith)
