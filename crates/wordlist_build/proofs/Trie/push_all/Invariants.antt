-- `wordlist_build::Trie::push_all` meets its contract: the letters of the labels up to i are there.
use Rattle.std.proofs.Common.{◌+◌}
use Rattle.wordlist_build.specs.Loops.{Pushing}
use Rattle.wordlist_build.proofs.Trie.push_all.Given as goal

abbrev pub invariant-loop-i : goal.invariant-loop-i
invariant-loop-i l = Pushing l.alphabet l.character l.initial.self l.head (l.i + 1) l.self
