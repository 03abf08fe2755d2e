-- `sheet_columns::store_column` meets its contract: its answer from the place `end` on, with the costs so far, is its answer from the start.
use Rattle.std.proofs.Common.{◌∙◌, ◌+◌, None, Some, set, length-set, arith}
use Rattle.sheet_number.specs.CostsLaws.{cost_begins}
use Rattle.sheet_columns.specs.Loops.{column_bad, column_full, column_last, column_more}
use Rattle.sheet_columns.proofs.store_column.Goals as goal

pub returns-in_err-cost : goal.returns-in_err-cost
returns-in_err-cost c =
    let l = c.loop-cost in
    rw c.from_residual.ensures (l.invariant.3 l.costs None (column_bad c.args.input.now l.end l.filled l.costs c.in_err-cost.ensures))

pub returns-then-filled-eq16384 : goal.returns-then-filled-eq16384
returns-then-filled-eq16384 c =
    let l = c.loop-cost in
    let k = c.in_ok-cost in
    l.invariant.3 l.costs None (column_full c.args.input.now l.end l.filled l.costs k.cost.value k.cost.end k.ensures (omega arith))

pub returns-then-input-cost-eq10 : goal.returns-then-input-cost-eq10
returns-then-input-cost-eq10 c =
    let l = c.loop-cost in
    let k = c.in_ok-cost in
    let below = l.invariant.1 in
    l.invariant.3 (set l.costs l.filled k.cost.value) (Some (record { end = k.cost.end + 1; filled = l.filled + 1 }))
    (column_last c.args.input.now l.end l.filled l.costs k.cost.value k.cost.end k.ensures (omega arith) c.if-input-cost-eq10.true)

pub loop-cost-smaller : goal.loop-cost-smaller
loop-cost-smaller c =
    let l = c.loop-cost in
    let k = c.in_ok-cost in
    let h = cost_begins c.args.input.now l.end k.cost.end k.cost.value k.ensures in
    let w = k.ensures.within in
    omega arith

pub loop-cost-preserved : goal.loop-cost-preserved
loop-cost-preserved c =
    let l = c.loop-cost in
    let k = c.in_ok-cost in
    let within = k.ensures.within in
    let below = l.invariant.1 in (
      omega arith,
      omega arith,
      length-set l.costs l.filled k.cost.value ∙ l.invariant.2,
      λ after r s.
          l.invariant.3 after r
          (column_more c.args.input.now l.end l.filled l.costs k.cost.value k.cost.end k.ensures after r (omega arith) c.if-input-cost-eq10.false s),
    )
