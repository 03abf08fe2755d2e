-- `form_encode_arcs::write_arcs` meets its contract: what is before n, what is written and the arcs still to come make the whole.
use Prim.Native.Nat.{◌+◌}
use mathlib.Core.Path.{subst}
use mathlib.Core.List.{◌++◌, flat_map}
use native.Mathlib.Omega.{arith}
use lib.ListN.{take}
use Rattle.lists.proofs.FillingLoops.{Filling, filling_from, filling_stored, filling_room, filling_stored_all}
use Rattle.form_encode_arcs.specs.Arcs.{letter_arcs_at, arcs_by}
use Rattle.lists.proofs.RemainingLoops.{from, flat_here, flat_past}
use Rattle.form_encode_arcs.specs.Loops.{arcs_first}
use Rattle.form_encode_arcs.proofs.write_arcs.Goals as goal

pub loop-source-init : goal.loop-source-init
loop-source-init c =
    let s = c.args in
    let f = s.form.now in
    let whole = arcs_by s.letters s.follow.now in
    subst (λ t. Filling (take s.n f ++ whole) f f t s.n) (arcs_first s.letters s.follow.now) (filling_from whole f s.n c.requires.2)

pub write_letter_arcs-m-requires : goal.write_letter_arcs-m-requires
write_letter_arcs-m-requires c =
    let s = c.args in
    let l = c.loop-source in
    let arcs = letter_arcs_at s.letters s.follow.now in (
      omega arith,
      omega arith,
      omega arith,
      filling_room (take s.n s.form.now ++ arcs_by s.letters s.follow.now) s.form.now (arcs l.source) l.form (flat_map arcs (from s.letters (l.source + 1))) l.m
          (rw (flat_here s.letters arcs l.source (omega arith)) at l.invariant),
    )

pub loop-source-preserved : goal.loop-source-preserved
loop-source-preserved c =
    let s = c.args in
    let l = c.loop-source in
    let arcs = letter_arcs_at s.letters s.follow.now in
    let wrote = c.write_letter_arcs-m in
    filling_stored (take s.n s.form.now ++ arcs_by s.letters s.follow.now) s.form.now (arcs l.source) l.form wrote.new.form
    (flat_map arcs (from s.letters (l.source + 1))) l.m wrote.result
    (rw (flat_here s.letters arcs l.source (omega arith)) at l.invariant) wrote.ensures

pub returns : goal.returns
returns c =
    let s = c.args in
    let l = c.loop-source in
    filling_stored_all (arcs_by s.letters s.follow.now) s.form.now s.n c.requires.2 l.form l.m
    (rw (flat_past s.letters (letter_arcs_at s.letters s.follow.now) l.source (omega arith)) at l.invariant)
