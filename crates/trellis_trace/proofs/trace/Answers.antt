-- `trellis_trace::trace` meets its contract: the labels so far lead to the states of the set.
use Prim.Native.Nat.{◌+◌, ◌*◌}
use mathlib.Core.Path.{refl, sym, subst}
use native.Mathlib.Omega.{arith}
use Rattle.automaton.specs.Form.{view}
use Rattle.matrix.specs.View.{value}
use Rattle.trellis_trace.specs.Traced.{Ready, Traced}
use Rattle.trellis_trace.specs.Loops.{tracked_none, tracked_all, tracked_kept, tracked_more, parts_of}
use Rattle.trellis_trace.proofs.trace.Goals as goal

pub loop-t-init : goal.loop-t-init
loop-t-init c =
    let a = c.args in
    let ready = subst (λ f. Ready f.words.now (value a.matrix) a.work.now a.base a.stride) (sym c.new-arcs.ensures) c.requires.0 in
    (tracked_none ready a.path.now c.new-set.ensures c.put_if.ensures, c.new-near.ensures)

pub advance-front-requires : goal.advance-front-requires
advance-front-requires c =
    let a = c.args in
    let l = c.loop-t in
    let ready = subst (λ f. Ready f.words.now (value a.matrix) a.work.now a.base a.stride) (sym c.new-arcs.ensures) c.requires.0 in
    let there = c.loop-t-test.true in
    let at = l.t * a.matrix.width in
    let begin = a.base + (l.t + 1) * a.stride in
    let n = c.letters.result in
    let e = c.letters.ensures in
    let parts = parts_of ready l.t there at (at + a.matrix.width) begin (begin + (2 * n + 1)) refl refl refl (omega arith) in
    (l.invariant.0.within, tracked_kept ready l.t there parts l.invariant.0, l.invariant.1)

pub loop-t-preserved : goal.loop-t-preserved
loop-t-preserved c =
    let a = c.args in
    let l = c.loop-t in
    let ready = subst (λ f. Ready f.words.now (value a.matrix) a.work.now a.base a.stride) (sym c.new-arcs.ensures) c.requires.0 in
    let there = c.loop-t-test.true in
    let at = l.t * a.matrix.width in
    let begin = a.base + (l.t + 1) * a.stride in
    let n = c.letters.result in
    let e = c.letters.ensures in
    let parts = parts_of ready l.t there at (at + a.matrix.width) begin (begin + (2 * n + 1)) refl refl refl (omega arith) in (
      tracked_more ready l.t there parts l.invariant.0 c.advance-front.new.set c.advance-front.ensures.0 c.requires.1,
      c.advance-front.ensures.1,
    )

pub returns : goal.returns
returns c =
    let a = c.args in
    let ready = subst (λ f. Ready f.words.now (value a.matrix) a.work.now a.base a.stride) (sym c.new-arcs.ensures) c.requires.0 in
    subst (λ f. Traced (view f.words.now) (value a.matrix) a.path.now c.loop-t.path) c.new-arcs.ensures
    (tracked_all ready c.loop-t-test.false c.loop-t.invariant.0)
