-- `wordlist_lines::comes_again` meets its contract: what is right of the rest is right of the whole list.
use Rattle.std.proofs.Common.{Bool, length}
use Rattle.wordlist_lines.specs.Again.{Again}
use Rattle.wordlist_lines.proofs.comes_again.Given as goal

abbrev pub invariant-loop-next : goal.invariant-loop-next
invariant-loop-next l = (r : Bool) → Again l.line l.rest r → Again l.line l.fn.list r

abbrev pub decreases-loop-next : goal.decreases-loop-next
decreases-loop-next l = length l.rest
