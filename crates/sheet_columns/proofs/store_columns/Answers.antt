-- `sheet_columns::store_columns` meets its contract: its answer from the place `end` on, with the columns so far, is its answer from the start.
use Rattle.std.proofs.Common.{◌∙◌, None, Some, arith}
use Rattle.sheet_columns.specs.Loops.{columns_end, columns_bad, columns_unequal, columns_more}
use Rattle.sheet_columns.proofs.store_columns.Goals as goal

pub returns-in_err-column : goal.returns-in_err-column
returns-in_err-column c =
    let l = c.loop-end in
    let after = c.store_column.new.costs in
    rw c.from_residual.ensures
    (l.invariant.4 after None
    (columns_bad c.args.width c.args.input.now l.end l.filled l.count l.costs after c.loop-end-test.true c.in_err-column.ensures))

pub returns-then-column-filled : goal.returns-then-column-filled
returns-then-column-filled c =
    let l = c.loop-end in
    let after = c.store_column.new.costs in
    let g = c.in_ok-column in
    l.invariant.4 after None
    (columns_unequal c.args.width c.args.input.now l.end l.filled l.count l.costs after g.column.end g.column.filled g.ensures
    (λ q. omega arith))

pub loop-end-preserved : goal.loop-end-preserved
loop-end-preserved c =
    let l = c.loop-end in
    let s = c.store_column in
    let g = c.in_ok-column in
    let h = g.ensures in
    let few = l.invariant.2 in
    let one = h.some_cost in (
      h.within,
      h.room,
      omega arith,
      s.auto.costs ∙ l.invariant.3,
      λ after r k.
          l.invariant.4 after r
          (columns_more c.args.width c.args.input.now l.end l.filled l.count l.costs s.new.costs g.column.end g.column.filled h after r
          (omega arith) k),
    )

pub returns : goal.returns
returns c =
    let l = c.loop-end in
    l.invariant.4 l.costs (Some l.count)
    (columns_end c.args.width c.args.input.now l.end l.filled l.count l.costs c.loop-end-test.false l.invariant.1)
