-- `sheet_columns::store_matrix` meets its contract: the first column gives the width of the others.
use Rattle.std.proofs.Common.{arith}
use Rattle.sheet_columns.specs.MatricesLaws.{matrix_none, matrix_bad, matrix_unequal, matrix_is}
use Rattle.sheet_columns.proofs.store_matrix.Goals as goal

pub returns-then-at-input : goal.returns-then-at-input
returns-then-at-input c =
    let a = c.args in
    matrix_none a.width_if_none a.input.now a.at a.costs.now c.if-at-input.true

pub returns-in_err-first : goal.returns-in_err-first
returns-in_err-first c =
    let a = c.args in
    let within = c.requires.0 in
    let more = c.if-at-input.false in
    rw c.from_residual.ensures
    (matrix_bad a.width_if_none a.input.now a.at a.costs.now c.store_column.new.costs (omega arith) c.in_err-first.ensures)

pub returns-in_err-count : goal.returns-in_err-count
returns-in_err-count c =
    let a = c.args in
    let g = c.in_ok-first in
    rw c.from_residual-in_err-count.ensures
    (matrix_unequal a.width_if_none a.input.now a.at a.costs.now c.store_column.new.costs g.first.end g.first.filled g.ensures
    c.store_columns.new.costs c.in_err-count.ensures)

pub returns : goal.returns
returns c =
    let a = c.args in
    let g = c.in_ok-first in
    matrix_is a.width_if_none a.input.now a.at a.costs.now c.store_column.new.costs g.first.end g.first.filled g.ensures c.store_columns.new.costs
    c.in_ok-count.count c.requires.1 c.in_ok-count.ensures
