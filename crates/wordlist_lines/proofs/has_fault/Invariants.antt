-- `wordlist_lines::has_fault` meets its contract: the lines that are left decide.
use Rattle.std.proofs.Common.{◌≡◌, length}
use Rattle.wordlist.specs.Words.{list_fault}
use Rattle.wordlist_lines.proofs.has_fault.Given as goal

abbrev pub invariant-loop-line : goal.invariant-loop-line
invariant-loop-line l = list_fault l.rest ≡ list_fault l.fn.list

abbrev pub decreases-loop-line : goal.decreases-loop-line
decreases-loop-line l = length l.rest
