-- The number by which the recursion of `alternation`, `branch`, `group` and `piece` ends: 4 × the length of the text that is left, plus 3, 2,
-- 1 or 0 for the function. It falls at each call.
use Prim.Native.Nat.{◌+◌, ◌*◌, ◌-◌}
use lib.ListN.{length}
use Rattle.regex_parse.proofs.+alternation_branch_group_piece.Given as goal

abbrev pub decreases-alternation : goal.decreases-alternation
decreases-alternation l = 4 * (length l.text.now - l.at) + 3

abbrev pub decreases-branch : goal.decreases-branch
decreases-branch l = 4 * (length l.text.now - l.at) + 2

abbrev pub decreases-piece : goal.decreases-piece
decreases-piece l = 4 * (length l.text.now - l.at) + 1

abbrev pub decreases-group : goal.decreases-group
decreases-group l = 4 * (length l.text.now - l.at)
