-- `trellis_row::fill_row` meets its contract.
use Rattle.std.proofs.Common.{◌+◌, ◌/◌, min, ap, ◌∙◌, arith}
use Rattle.trellis_row.specs.RowsLaws.{row_filled}
use Rattle.trellis_row.proofs.fill_row.Goals as goal

pub returns : goal.returns
returns c =
    let a = c.args in
    let first = c.first_key-first in
    row_filled a.lookups.now.arcs.now.form.valid a.column.now a.work.now a.here (a.here + a.stride) a.keys.now c.fill_keys.new.keys c.fill_keys.ensures c.fill_letters.new.work
    (omega arith) c.fill_letters.ensures first.result c.price-start.result first.ensures (c.price-start.ensures ∙ ap (min (first.result / 256)) c.sum.ensures.0)
