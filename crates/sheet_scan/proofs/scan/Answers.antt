-- `sheet_scan::scan` meets its contract, a lemma for each return.
use Rattle.std.proofs.Common.{refl, arith}
use Rattle.sheet_scan.specs.WholeLaws.{scans_bad, sheet_long, sheet_no_line, sheet_one_line, sheet_unfit, scans_sheet}
use Rattle.sheet_scan.proofs.scan.Goals as goal

pub returns-then-input-gt65535 : goal.returns-then-input-gt65535
returns-then-input-gt65535 c =
    let a = c.args in
    scans_bad a.input.now a.costs.now a.costs.now (sheet_long a.input.now (omega arith)) refl

pub returns-then-first-input : goal.returns-then-first-input
returns-then-first-input c =
    let a = c.args in
    let first = c.line_end-first in
    scans_bad a.input.now a.costs.now a.costs.now
    (sheet_no_line a.input.now (omega arith) first.result first.ensures c.if-first-input.true) refl

pub returns-then-second-input : goal.returns-then-second-input
returns-then-second-input c =
    let a = c.args in
    let first = c.line_end-first in
    let second = c.line_end-second in
    scans_bad a.input.now a.costs.now a.costs.now
    (sheet_one_line a.input.now (omega arith) first.result first.ensures
    (let w = first.ensures.within in let d = c.if-first-input.false in omega arith) second.result second.ensures (omega arith))
    refl

pub returns-in_err-matrix : goal.returns-in_err-matrix
returns-in_err-matrix c =
    let a = c.args in
    let first = c.line_end-first in
    let second = c.line_end-second in
    let s = c.store_matrix in
    rw c.from_residual.ensures
    (scans_bad a.input.now a.costs.now s.new.costs
    (sheet_unfit a.input.now (omega arith) first.result first.ensures
    (let w = first.ensures.within in let d = c.if-first-input.false in omega arith) second.result second.ensures
    (let w = second.ensures.within in omega arith) a.costs.now s.new.costs
    c.in_err-matrix.ensures)
    s.auto.costs)

pub returns : goal.returns
returns c =
    let a = c.args in
    let first = c.line_end-first in
    let second = c.line_end-second in
    let s = c.store_matrix in
    let g = c.in_ok-matrix in
    scans_sheet a.input.now (omega arith) first.result first.ensures
    (let w = first.ensures.within in let d = c.if-first-input.false in omega arith) second.result second.ensures
    (let w = second.ensures.within in omega arith) a.costs.now s.new.costs g.matrix.width g.matrix.count g.ensures s.auto.costs
