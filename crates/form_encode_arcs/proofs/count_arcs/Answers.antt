-- `form_encode_arcs::count_arcs` meets its contract: the arcs counted and those of the letters still to come make the whole.
use Rattle.std.specs.Prelude.{length}
use Rattle.std.proofs.Common.{ap, arith}
use Rattle.form_encode_arcs.specs.Loops.{arcs_first, count_letter_arcs_here, count_letter_arcs_past}
use Rattle.form_encode_arcs.proofs.count_arcs.Goals as goal

pub loop-i-init : goal.loop-i-init
loop-i-init c =
    let s = c.args in
    let e = ap length (arcs_first s.letters s.follow.now) in
    (omega arith, omega arith)

pub loop-i-preserved : goal.loop-i-preserved
loop-i-preserved c =
    let s = c.args in
    let l = c.loop-i in
    let t = count_letter_arcs_here s.letters s.follow.now l.i (omega arith) in
    (omega arith, omega arith)

pub returns : goal.returns
returns c =
    let s = c.args in
    let l = c.loop-i in
    let z = count_letter_arcs_past s.letters s.follow.now l.i (omega arith) in
    (omega arith, omega arith)
