-- `Column::put_letter` meets its contract: the state is put if its label is not `own` and the two costs add up.
use Rattle.trellis_steps.specs.Loops.{letter_put}
use Rattle.trellis_steps.specs.Kept.{graph}
use Rattle.trellis_steps.proofs.Column.put_letter.Goals as goal

pub returns : goal.returns
returns c =
    let a = c.args in
    let s = a.self.now in
    letter_put (graph s) s.costs.now s.row.now s.left a.own a.j a.to.now c.put_if.new.self c.label-x.result c.keeps.result c.requires.0
    c.label-x.ensures c.keeps.ensures c.put_if.ensures
