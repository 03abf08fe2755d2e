-- `wordlist_build::Trie::end_line` meets its contract: the letters before i have their marks, and nothing else has changed.
use Rattle.std.proofs.Common.{◌≡◌, false}
use Rattle.lists.proofs.UptoLoops.{Upto}
use Rattle.wordlist_build.specs.Loops.{Mark}
use Rattle.wordlist_build.specs.Loops.{marked_with}
use Rattle.wordlist_build.proofs.Trie.end_line.Given as goal

abbrev pub invariant-loop-i : goal.invariant-loop-i
invariant-loop-i l =
    Upto false (Mark l.initial.self.heads l.initial.self.last l.initial.self.at) l.initial.self.last l.i l.self.last × (l.self ≡ marked_with l.initial.self l.self.last)
