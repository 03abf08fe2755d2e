-- `form_sets::mark_firsts` meets its contract: after the last letter, what was marked are the letters that may be first.
use Rattle.std.proofs.Common.{arith}
use Rattle.form_sets.specs.Loops.{all_begun}
use Rattle.form_sets.proofs.mark_firsts.Goals as goal

pub returns : goal.returns
returns c =
    let a = c.args in
    let l = c.loop-j in
    let end = c.letters-j-end.ensures in
    all_begun a.form.words.now a.x a.set.now l.set l.j (omega arith) l.invariant
