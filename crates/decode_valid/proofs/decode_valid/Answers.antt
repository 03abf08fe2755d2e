-- `decode_valid::decode_valid` meets its contract: the table is filled, and the path is traced through it unless there is none.
use Rattle.std.proofs.Common.{◌+◌, ◌*◌, sym, ap, arith, length-take-le}
use Rattle.decode_valid.specs.Lent.{lent}
use Rattle.decode_valid.proofs.PhasesLaws.{sized, nothing, ready, something}
use Rattle.decode_valid.proofs.decode_valid.Goals as goal

pub fill-price-requires : goal.fill-price-requires
fill-price-requires c = sized c.args.form.valid (lent c.args.path.now c.args.word.now c.args.work.now) c.requires

pub returns-then-price-ge-TOP : goal.returns-then-price-ge-TOP
returns-then-price-ge-TOP c =
    nothing c.args.form.valid (lent c.args.path.now c.args.word.now c.args.work.now) c.requires c.fill-price.ensures c.if-price-ge-TOP.true c.fill-price.auto.work

pub trace-requires : goal.trace-requires
trace-requires c =
    let fill = c.fill-price in
    (ready c.args.form.valid (lent c.args.path.now c.args.word.now c.args.work.now) c.requires fill.ensures c.if-price-ge-TOP.false _ (ap (λ n. 2 * n + 1) c.letters.ensures) fill.auto.work, c.requires.path)

pub slice_bounds-write_collapse-end-2 : goal.slice_bounds-write_collapse-end-2
slice_bounds-write_collapse-end-2 c =
    let trace = c.trace in
    sym (length-take-le c.args.matrix.count trace.new.path (let k = trace.auto.path in let h = c.requires.path in omega arith))

pub write_collapse-length-requires : goal.write_collapse-length-requires
write_collapse-length-requires c =
    let trace = c.trace in
    let h = c.requires.path in
    let k = trace.auto.path in
    let l = length-take-le c.args.matrix.count trace.new.path (omega arith) in
    let room = c.requires.word in
    omega arith

pub returns : goal.returns
returns c =
    something c.args.form.valid (lent c.args.path.now c.args.word.now c.args.work.now) c.requires c.fill-price.ensures c.if-price-ge-TOP.false c.trace.ensures
    c.fill-price.auto.work c.write_collapse-length.ensures
