-- `form_check::are_arcs` meets its contract: where no word is left, the words so far decide.
use Rattle.std.proofs.Common.{arith}
use Rattle.form_check.specs.ChecksLaws.{beyond_end}
use Rattle.form_check.proofs.are_arcs.Goals as goal

pub returns : goal.returns
returns c =
    let a = c.args in
    let l = c.loop-w in
    beyond_end a.l a.words.now l.pass l.last l.w-index _ l.invariant (omega arith)
