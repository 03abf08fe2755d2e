-- `form_encode_arcs::count_letter_arcs` meets its contract: the letters counted and those still to come make the whole.
use Rattle.std.proofs.Common.{arith}
use Rattle.form_encode_arcs.specs.Loops.{count_here, count_past}
use Rattle.form_encode_arcs.proofs.count_letter_arcs.Goals as goal
use Rattle.form_encode_arcs.proofs.count_letter_arcs.Goals.{then-there, else-there}

pub loop-j-preserved : goal.loop-j-preserved
loop-j-preserved c =
    let s = c.args in
    let l = c.loop-j in
    let t = count_here s.letters s.targets.now l.j (omega arith) in
    elim c.if-there.branch [
      | then-there w ↦ let u = rw w.if-there.true at t in let e = w.n-is in (omega arith, omega arith)
      | else-there w ↦ let u = rw w.if-there.false at t in let e = w.n-is in (omega arith, omega arith)
    ]

pub returns : goal.returns
returns c =
    let s = c.args in
    let l = c.loop-j in
    let z = count_past s.letters s.targets.now l.j (omega arith) in
    (omega arith, omega arith)
