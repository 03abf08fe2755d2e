-- `Column::put_firsts` meets its contract: the iterations so far have put their letters.
use Prim.Native.Nat.{◌+◌}
use mathlib.Core.Path.{◌≡◌, subst}
use native.Mathlib.Omega.{arith}
use Rattle.lists.specs.Marks.{Marks, Iterations}
use Rattle.automaton.specs.Form.{letters_of}
use Rattle.trellis_steps.specs.Steps.{Led}
use Rattle.trellis_steps.specs.Loops.{firsts_put}
use Rattle.trellis_steps.specs.Kept.{words, graph, Kept}
use Rattle.trellis_steps.proofs.Column.put_firsts.Goals as goal

pub returns : goal.returns
returns c =
    let a = c.args in
    let s = a.self.now in
    let l = c.loop-j in
    let end : l.j ≡ letters_of (words s) + 1 = omega arith in
    firsts_put (words s) s.costs.now s.row.now s.left s.arcs.now.form.valid a.own a.to.now l.to
    (subst (λ j. Marks (Kept s (Iterations (Led (graph s) a.own 0) 1 j)) a.to.now l.to) end l.invariant)
