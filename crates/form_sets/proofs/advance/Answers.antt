-- `form_sets::advance` meets its contract: after the last letter, what was marked may follow one of the set.
use Rattle.std.proofs.Common.{arith}
use Rattle.form_sets.specs.Loops.{all_left}
use Rattle.form_sets.proofs.advance.Goals as goal

pub returns : goal.returns
returns c =
    let a = c.args in
    let form = a.arcs.now.form in
    let l = c.loop-i in
    let end = c.letters-i-end.ensures in
    all_left form.words.now a.x form.valid a.set l.next l.i (omega arith) l.invariant
