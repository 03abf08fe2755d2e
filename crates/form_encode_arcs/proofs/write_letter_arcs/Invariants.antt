-- `form_encode_arcs::write_letter_arcs` meets its contract: what is before n, what is written and the arcs still to come make the whole.
use mathlib.Core.List.{◌++◌, map}
use lib.ListN.{take}
use Rattle.lists.specs.Lists.{keep}
use Rattle.lists.proofs.FillingLoops.{Filling}
use Rattle.automaton.specs.Form.{arc_word}
use Rattle.form_encode_arcs.specs.Arcs.{letter_arcs}
use Rattle.automaton.specs.Arrays.{has}
use Rattle.lists.proofs.RemainingLoops.{from}
use Rattle.form_encode_arcs.proofs.write_letter_arcs.Given as goal

abbrev pub invariant-loop-target : goal.invariant-loop-target
invariant-loop-target l =
    Filling (take l.n l.initial.form ++ letter_arcs l.letters l.targets l.source) l.initial.form l.form (map (arc_word l.source) (keep (has l.targets) (from l.letters l.target))) l.m
