-- `form_encode_arcs::write_letter_arcs` meets its contract: what is before n, what is written and the arcs still to come make the whole.
use Prim.Native.Nat.{◌+◌}
use mathlib.Core.Path.{subst}
use mathlib.Core.List.{[], ◌∷◌, ◌++◌, map}
use native.Mathlib.Omega.{arith}
use lib.ListN.{take}
use Rattle.lists.specs.Lists.{keep}
use Rattle.lists.proofs.FillingLoops.{Filling, filling_from, filling_more, filling_room, filling_stored_all}
use Rattle.automaton.specs.Form.{arc_word}
use Rattle.form_encode_arcs.specs.Arcs.{letter_arcs}
use Rattle.automaton.specs.Arrays.{has}
use Rattle.lists.proofs.RemainingLoops.{from}
use Rattle.form_encode_arcs.specs.Loops.{letter_first, letter_here, letter_past}
use Rattle.form_encode_arcs.proofs.write_letter_arcs.Goals as goal
use Rattle.form_encode_arcs.proofs.write_letter_arcs.Goals.{then-targets-target, else-targets-target}

pub loop-target-init : goal.loop-target-init
loop-target-init c =
    let s = c.args in
    let f = s.form.now in
    let whole = letter_arcs s.letters s.targets.now s.source in
    subst (λ t. Filling (take s.n f ++ whole) f f t s.n) (letter_first s.letters s.targets.now s.source) (filling_from whole f s.n c.requires.3)

-- what is still to be written at a letter, where it has an arc, and where it has none
pub bounds-form-m : goal.bounds-form-m
bounds-form-m c =
    let s = c.args in
    let l = c.loop-target in
    let r = s.targets.now in
    let f = s.form.now in
    let word = arc_word s.source l.target in
    let todo = map (arc_word s.source) (keep (has r) (from s.letters (l.target + 1))) in
    let h =
    filling_room (take s.n f ++ letter_arcs s.letters r s.source) f (word ∷ []) l.form todo l.m
    (rw (letter_here s.letters r s.source l.target (omega arith), c.if-targets-target.true) at l.invariant) in
    omega arith

pub loop-target-preserved : goal.loop-target-preserved
loop-target-preserved c =
    let s = c.args in
    let l = c.loop-target in
    let r = s.targets.now in
    let f = s.form.now in
    let word = arc_word s.source l.target in
    let todo = map (arc_word s.source) (keep (has r) (from s.letters (l.target + 1))) in
    let whole = take s.n f ++ letter_arcs s.letters r s.source in
    elim c.if-targets-target.branch [
      | then-targets-target w ↦
          rw (w.form-is, w.m-is, w.arc_word.ensures)
          (filling_more whole f l.form todo l.m word
          (rw (letter_here s.letters r s.source l.target (omega arith), w.if-targets-target.true) at l.invariant))
      | else-targets-target w ↦
          rw (w.form-is, w.m-is)
          (rw (letter_here s.letters r s.source l.target (omega arith), w.if-targets-target.false) at l.invariant)
    ]

pub returns : goal.returns
returns c =
    let s = c.args in
    let l = c.loop-target in
    let r = s.targets.now in
    let f = s.form.now in
    filling_stored_all (letter_arcs s.letters r s.source) f s.n c.requires.3 l.form l.m
    (rw (letter_past s.letters r s.source l.target (omega arith)) at l.invariant)
