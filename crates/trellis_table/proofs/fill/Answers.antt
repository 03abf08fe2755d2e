-- `trellis_table::fill` meets its contract: the last row, and then the others.
use Rattle.std.proofs.Common.{arith}
use Rattle.matrix.specs.View.{value}
use Rattle.trellis_table.specs.FillLoops.{filled}
use Rattle.trellis_table.proofs.fill.Goals as goal

pub fill_rows-requires : goal.fill_rows-requires
fill_rows-requires c =
    let p = c.requires in
    let m = value c.args.matrix in
    let room = p.room in
    let l = c.fill_last.auto.work in
    rw c.letters.ensures (
      record { width = p.width; size = p.size; row = omega arith; room = omega arith },
      (rw c.letters.ensures at c.fill_last.ensures).row m c.args.matrix.count,
    )

pub returns : goal.returns
returns c =
    filled (value c.args.matrix) c.args.work.now c.fill_last.new.work c.fill_rows.new.work
    (rw c.letters.ensures at c.fill_last.ensures) (rw c.letters.ensures at c.fill_rows.ensures)
