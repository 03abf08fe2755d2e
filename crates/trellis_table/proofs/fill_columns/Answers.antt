-- `trellis_table::fill_columns` meets its contract.
use Rattle.std.proofs.Common.{◌≡◌, ◌+◌, ◌-◌, arith, subst}
use Rattle.automaton.specs.Form.{alphabet_of}
use Rattle.matrix.specs.View.{value}
use Rattle.trellis_table.specs.Fill.{RowsFilled}
use Rattle.trellis_table.specs.FillLoops.{rows_last, row_inside, rows_more}
use Rattle.trellis_table.proofs.fill_columns.Goals as goal

pub loop-t-init : goal.loop-t-init
loop-t-init c = rows_last (value c.args.matrix) c.args.work.now c.args.stride c.requires.1

pub fill_row-requires : goal.fill_row-requires
fill_row-requires c =
    let a = c.args in
    let sized = c.requires.0 in
    let width = sized.width in
    let wide = sized.row in
    let inside = row_inside (value a.matrix) a.work.now a.stride a.lookups.now.arcs.now.form.valid sized (c.loop-t.t - 1) (omega arith) in
    record { ahead = record { wide = omega arith; room = omega arith }; apart = omega arith }

pub loop-t-preserved : goal.loop-t-preserved
loop-t-preserved c =
    let a = c.args in
    let l = c.loop-t in
    let f = a.lookups.now.arcs.now.form.words.now in
    let sized = c.requires.0 in
    let width = sized.width in
    let again : l.t ≡ l.t - 1 + 1 = omega arith in
    rows_more (value a.matrix) a.work.now a.stride a.lookups.now.arcs.now.form.valid sized (l.t - 1) (omega arith) l.work
    (subst (RowsFilled f (value a.matrix) a.work.now l.work a.stride) again l.invariant)
    c.column.result.now c.fill_row.new.work (c.column.ensures.costs (alphabet_of f) (omega arith)) c.fill_row.ensures

pub returns : goal.returns
returns c =
    let a = c.args in
    let e : c.loop-t.t ≡ 0 = omega arith in
    subst (RowsFilled a.lookups.now.arcs.now.form.words.now (value a.matrix) a.work.now c.loop-t.work a.stride) e c.loop-t.invariant
