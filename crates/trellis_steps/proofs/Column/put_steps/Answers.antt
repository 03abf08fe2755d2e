-- `Column::put_steps` meets its contract: the two states, then the letters that may follow.
use Prim.Native.Nat.{◌+◌, ◌*◌, ◌/◌}
use mathlib.Core.Path.{refl, sym, subst}
use native.Mathlib.Omega.{arith}
use Rattle.lists.specs.Marks.{Marks}
use Rattle.trellis.proofs.ExtendedLaws.{at_letter}
use Rattle.trellis.proofs.ReachedLaws.{entering_blanks}
use Rattle.trellis_steps.specs.Steps.{Following}
use Rattle.trellis_steps.specs.Loops.{entering_high, kept_one, steps_put}
use Rattle.trellis_steps.specs.Kept.{words, graph, Kept}
use Rattle.trellis_steps.proofs.Column.put_steps.Goals as goal

pub put_kept_at-requires : goal.put_kept_at-requires
put_kept_at-requires c =
    let s = c.args.self.now in
    let high = entering_high (words s) s.arcs.now.form.valid c.args.s c.requires in
    let e = c.entering-own.ensures in
    (omega arith, c.requires)

pub returns : goal.returns
returns c =
    let a = c.args in
    let s = a.self.now in
    let i = (a.s + 1) / 2 in
    let one = c.put_kept_at.new.to in
    let two = c.put_kept_at-2.new.to in
    let after = c.put_after.new.to in
    let own = c.entering-own.ensures in
    steps_put (words s) s.costs.now s.row.now s.left s.arcs.now.form.valid i a.s a.to.now one two after (at_letter a.s)
    (kept_one (graph s) s.costs.now s.row.now s.left c.entering-own.result a.s a.to.now one own c.put_kept_at.ensures)
    (kept_one (graph s) s.costs.now s.row.now s.left 0 (2 * i) one two (sym (entering_blanks (graph s) i (2 * i) refl)) c.put_kept_at-2.ensures)
    (subst (λ x. Marks (Kept s (Following (graph s) x i)) two after) own c.put_after.ensures)
