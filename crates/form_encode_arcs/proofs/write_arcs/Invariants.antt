-- `form_encode_arcs::write_arcs` meets its contract: what is before n, what is written and the arcs still to come make the whole.
use mathlib.Core.List.{◌++◌, flat_map}
use lib.ListN.{take}
use Rattle.lists.proofs.FillingLoops.{Filling}
use Rattle.form_encode_arcs.specs.Arcs.{letter_arcs_at, arcs_by}
use Rattle.lists.proofs.RemainingLoops.{from}
use Rattle.form_encode_arcs.proofs.write_arcs.Given as goal

abbrev pub invariant-loop-source : goal.invariant-loop-source
invariant-loop-source l =
    Filling (take l.n l.initial.form ++ arcs_by l.letters l.follow) l.initial.form l.form (flat_map (letter_arcs_at l.letters l.follow) (from l.letters l.source)) l.m
