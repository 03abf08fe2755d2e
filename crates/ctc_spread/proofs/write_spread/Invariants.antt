-- `ctc_spread::write_spread` meets its contract: what is written, and the spread of the rest after the last letter, make the whole.
use lib.ListN.{drop}
use Rattle.lists.proofs.FillingLoops.{Filling}
use Rattle.ctc.specs.Spread.{spread}
use Rattle.ctc.proofs.SpreadLaws.{spread_after}
use Rattle.ctc_spread.proofs.write_spread.Given as goal

abbrev pub invariant-loop-x : goal.invariant-loop-x
invariant-loop-x l = Filling (spread l.word) l.initial.path l.path (spread_after l.a (drop l.x-index l.word)) l.n
