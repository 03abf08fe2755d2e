-- `positions_letters::Source::write_labels` meets its contract: what is before n, what is written and the labels still to come make the whole.
use Rattle.std.specs.Prelude.{◌+◌}
use mathlib.Core.List.{◌++◌}
use lib.ListN.{take}
use Rattle.lists.proofs.FillingLoops.{Filling}
use Rattle.positions.specs.Opened.{labels_of_set}
use Rattle.regex_set.specs.Answers.{set_at}
use Rattle.positions_letters.specs.LettersLaws.{labels_from}
use Rattle.positions_letters.proofs.Source.write_labels.Given as goal

abbrev pub invariant-loop-i : goal.invariant-loop-i
invariant-loop-i l =
    Filling (take l.n l.initial.labels ++ labels_of_set l.self.alphabet.now (set_at l.self.text.now l.at)) l.initial.labels l.labels (labels_from l.self.alphabet.now (set_at l.self.text.now l.at) (l.i + 1)) l.m
