-- `ctc_collapse::write_collapse` meets its contract: what is written, and what the rest of the path adds after the last label, make the
-- whole.
use lib.ListN.{drop}
use Rattle.lists.proofs.FillingLoops.{Filling}
use Rattle.ctc.specs.Collapse.{collapse}
use Rattle.ctc.proofs.CollapseLaws.{after}
use Rattle.ctc_collapse.proofs.write_collapse.Given as goal

abbrev pub invariant-loop-x : goal.invariant-loop-x
invariant-loop-x l = Filling (collapse l.path) l.initial.word l.word (after l.a (drop l.x-index l.path)) l.n
