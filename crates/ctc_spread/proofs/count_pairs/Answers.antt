-- `ctc_spread::count_pairs` meets its contract: the pairs counted and those of the rest make the whole.
use Rattle.std.proofs.Common.{◌+◌, get_or, arith, eq-eqb, ne_eqb}
use Rattle.ctc_spread.proofs.Loops.{pairs_step, pairs_end}
use Rattle.ctc_spread.proofs.count_pairs.Goals as goal
use Rattle.ctc_spread.proofs.count_pairs.Goals.{then-equal, else-equal}

pub loop-i-preserved : goal.loop-i-preserved
loop-i-preserved c =
    let w = c.args.word.now in
    let i = c.loop-i.i in
    let a = get_or w i 0 in
    let b = get_or w (i + 1) 0 in
    let t = pairs_step w i (omega arith) in
    elim c.if-equal.branch [
      | then-equal q ↦ let u = rw (eq-eqb a b q.if-equal.true) at t in let e = q.n-is in (omega arith, omega arith)
      | else-equal q ↦ let u = rw (ne_eqb a b q.if-equal.false) at t in let e = q.n-is in (omega arith, omega arith)
    ]

pub returns : goal.returns
returns c = let z = pairs_end c.args.word.now c.loop-i.i (omega arith) in omega arith
