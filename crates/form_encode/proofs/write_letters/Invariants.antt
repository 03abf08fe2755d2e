-- `form_encode::write_letters` meets its contract: the head's place, what is written and the letters still to come make the whole.
use mathlib.Core.List.{◌++◌, map}
use lib.ListN.{take}
use Rattle.lists.proofs.FillingLoops.{Filling}
use Rattle.form_encode.specs.Parts.{letter_by, letters_by}
use Rattle.lists.proofs.RemainingLoops.{from}
use Rattle.form_encode.proofs.write_letters.Given as goal

abbrev pub invariant-loop-letter : goal.invariant-loop-letter
invariant-loop-letter l =
    let a = l.a in
    let word = letter_by a.labels.now a.first.now a.last.now in
    Filling (take 1 l.initial.form ++ letters_by a.letters a.labels.now a.first.now a.last.now) l.initial.form l.form (map word (from a.letters l.letter)) l.letter
