-- The number by which the recursion of `alternation`, `branch`, `piece` and `group` ends: 512 × the length of the text left, plus 258 for
-- `alternation`, 257 for `branch`, 256 less the copies built for `piece`, and 0 for `group`. It falls at each call.
use Prim.Native.Nat.{◌+◌, ◌*◌, ◌-◌}
use lib.ListN.{length}
use Rattle.positions_build.proofs.+alternation_branch_group_piece.Given as goal

abbrev pub decreases-alternation : goal.decreases-alternation
decreases-alternation l = 512 * (length l.source.now.text.now - l.at) + 258

abbrev pub decreases-branch : goal.decreases-branch
decreases-branch l = 512 * (length l.source.now.text.now - l.at) + 257

abbrev pub decreases-piece : goal.decreases-piece
decreases-piece l = 512 * (length l.source.now.text.now - l.at) + (256 - l.copies)

abbrev pub decreases-group : goal.decreases-group
decreases-group l = 512 * (length l.source.now.text.now - l.at)
