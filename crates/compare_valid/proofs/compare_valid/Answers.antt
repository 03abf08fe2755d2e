-- `compare_valid::compare_valid` meets its contract: one table, then the other in its place, and the difference of their answers.
use Rattle.std.proofs.Common.{rules}
use Rattle.compare_valid.specs.TablesLaws.{sized_first, sized_second, nothing_first, nothing_second, both}
use Rattle.compare_valid.proofs.compare_valid.Goals as goal

pub fill-p-requires : goal.fill-p-requires
fill-p-requires c = sized_first c.args.work.now c.requires

pub returns-then-p-ge-TOP : goal.returns-then-p-ge-TOP
returns-then-p-ge-TOP c =
    let one = c.fill-p in
    nothing_first c.args.work.now c.requires one.ensures one.auto.work c.if-p-ge-TOP.true

pub fill-q-requires : goal.fill-q-requires
fill-q-requires c = sized_second c.args.work.now c.requires c.fill-p.auto.work

pub returns-then-q-ge-TOP : goal.returns-then-q-ge-TOP
returns-then-q-ge-TOP c =
    let one = c.fill-p in
    let two = c.fill-q in
    nothing_second c.args.work.now c.requires one.ensures one.auto.work two.ensures two.auto.work c.if-q-ge-TOP.true

pub returns : goal.returns
returns c =
    let one = c.fill-p in
    let two = c.fill-q in
    let p = c.if-p-ge-TOP.false in
    let q = c.if-q-ge-TOP.false in
    both c.args.work.now c.requires one.ensures one.auto.work two.ensures two.auto.work p q (search rules)
