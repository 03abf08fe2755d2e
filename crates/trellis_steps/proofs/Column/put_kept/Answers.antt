-- `Column::put_kept` meets its contract: the iterations so far have put what steps from their states lead to.
use mathlib.Core.Path.{◌≡◌, sym, subst}
use native.Mathlib.Omega.{arith}
use lib.ListN.{length}
use Rattle.lists.specs.Marks.{Marks, Iterations}
use Rattle.trellis_steps.specs.Steps.{Onto, From}
use Rattle.trellis_steps.specs.Loops.{kept_iterations_more, all_put}
use Rattle.trellis_steps.specs.Kept.{graph, Kept}
use Rattle.trellis_steps.proofs.Column.put_kept.Goals as goal

pub put_steps-requires : goal.put_steps-requires
put_steps-requires c = let low = c.requires c.from.result (c.loop-s.s-index, omega arith, sym c.from.ensures) in omega arith

pub loop-s-preserved : goal.loop-s-preserved
loop-s-preserved c =
    let a = c.args in
    let s = a.self.now in
    let l = c.loop-s in
    let after = c.put_steps.new.to in
    kept_iterations_more (graph s) s.costs.now s.row.now s.left (From (graph s) a.from.now) 0 l.s-index a.to.now l.to after
    (omega arith) l.invariant (subst (λ u. Marks (Kept s (Onto (graph s) u)) l.to after) c.from.ensures c.put_steps.ensures)

pub returns : goal.returns
returns c =
    let a = c.args in
    let s = a.self.now in
    let l = c.loop-s in
    let items = a.from.now in
    let end : l.s-index ≡ length items = omega arith in
    all_put (graph s) s.costs.now s.row.now s.left items (length items) a.to.now l.to
    (subst (λ k. Marks (Kept s (Iterations (From (graph s) items) 0 k)) a.to.now l.to) end l.invariant)
