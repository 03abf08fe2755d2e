-- `wordlist_build::Trie::next_letter` meets its contract: the letters from i + 1 on decide.
use Rattle.std.proofs.Common.{◌+◌}
use Rattle.lists.proofs.LowestLaws.{Seeking}
use Rattle.wordlist_build.specs.Arrays.{leads_on}
use Rattle.wordlist_build.proofs.Trie.next_letter.Given as goal

abbrev pub invariant-loop-i : goal.invariant-loop-i
invariant-loop-i l = Seeking (leads_on l.self l.character) l.self.letters (l.i + 1)
