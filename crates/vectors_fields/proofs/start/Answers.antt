-- `vectors_fields::start` meets its contract: the field wanted is a field of the line from `at` on.
use Rattle.std.proofs.Common.{◌∙◌, arith}
use Rattle.vectors_fields.specs.CutLoops.{next_within, cut_further, cut_ends}
use Rattle.vectors_fields.proofs.start.Goals as goal

pub returns-then-at-line : goal.returns-then-at-line
returns-then-at-line c =
    let s = c.args in
    let l = c.loop in
    let find = c.find-at in
    let w = next_within 9 s.line.now l.at l.invariant.0 in
    let e = find.ensures in
    let end = c.if-at-line.true in
    (omega arith, cut_ends 9 s.line.now l.at find.result s.k l.counter e c.loop-test.true l.invariant.0 (omega arith) ∙ l.invariant.2)

pub overflow_add-at : goal.overflow_add-at
overflow_add-at c =
    let w = next_within 9 c.args.line.now c.loop.at c.loop.invariant.0 in
    let e = c.find-at.ensures in
    omega arith

pub loop-preserved : goal.loop-preserved
loop-preserved c =
    let s = c.args in
    let l = c.loop in
    let find = c.find-at in
    let w = next_within 9 s.line.now l.at l.invariant.0 in
    let e = find.ensures in
    let more = c.if-at-line.false in
    (omega arith, omega arith, cut_further 9 s.line.now l.at find.result s.k l.counter e c.loop-test.true (omega arith) ∙ l.invariant.2)
