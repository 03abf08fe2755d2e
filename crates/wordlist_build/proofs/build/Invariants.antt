-- `wordlist_build::build` meets its contract: the bytes before this one have been read.
use Rattle.wordlist_build.specs.State.{Reached}
use Rattle.wordlist_build.proofs.build.Given as goal

abbrev pub invariant-loop-b : goal.invariant-loop-b
invariant-loop-b l = Reached l.alphabet l.list l.b-index l.trie
