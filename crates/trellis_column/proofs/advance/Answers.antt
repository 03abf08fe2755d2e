-- `trellis_column::advance` meets its contract: some state is kept, so there is a lowest label.
use Rattle.std.proofs.Common.{MatchOption, subst, arith}
use Rattle.lists.specs.Marks.{Has}
use Rattle.trellis_steps.specs.Kept.{graph}
use Rattle.trellis_members.specs.Members.{IsEmpty}
use Rattle.trellis_column.specs.Column.{LabelIn, Lowest}
use Rattle.trellis_column.specs.ColumnLaws.{near_within, some_lowest, lowest_label, lowest_paid, taken}
use Rattle.trellis_column.proofs.advance.Goals as goal

pub lowest-requires : goal.lowest-requires
lowest-requires c =
    near_within {In = Has c.args.set.now} (record { sized = c.args.column.now.ready; within = c.requires.0; enough = c.put_lowest.ensures })

pub unwrap-x-requires : goal.unwrap-x-requires
unwrap-x-requires c =
    some_lowest {In = Has c.args.set.now} (record { sized = c.args.column.now.ready; within = c.requires.0; enough = c.put_lowest.ensures })
    c.lowest.result c.lowest.ensures

pub put_of_label-requires : goal.put_of_label-requires
put_of_label-requires c =
    near_within {In = Has c.args.set.now} (record { sized = c.args.column.now.ready; within = c.requires.0; enough = c.put_lowest.ensures })

pub bounds-column-x : goal.bounds-column-x
bounds-column-x c =
    let s = c.args.column.now in
    let near = c.put_lowest.new.near in
    let least = subst (λ o. MatchOption o (IsEmpty near) (Lowest (LabelIn (graph s) (Has near)))) c.unwrap-x.ensures c.lowest.ensures in
    let l = lowest_label {In = Has c.args.set.now} (record { sized = s.ready; within = c.requires.0; enough = c.put_lowest.ensures }) least in
    let wide = s.ready.wide in
    omega arith

pub overflow_sub-result : goal.overflow_sub-result
overflow_sub-result c =
    let s = c.args.column.now in
    let near = c.put_lowest.new.near in
    let least = subst (λ o. MatchOption o (IsEmpty near) (Lowest (LabelIn (graph s) (Has near)))) c.unwrap-x.ensures c.lowest.ensures in
    lowest_paid {In = Has c.args.set.now} (record { sized = s.ready; within = c.requires.0; enough = c.put_lowest.ensures }) least

pub overflow_cast-result : goal.overflow_cast-result
overflow_cast-result c =
    let s = c.args.column.now in
    let near = c.put_lowest.new.near in
    let least = subst (λ o. MatchOption o (IsEmpty near) (Lowest (LabelIn (graph s) (Has near)))) c.unwrap-x.ensures c.lowest.ensures in
    let l = lowest_label {In = Has c.args.set.now} (record { sized = s.ready; within = c.requires.0; enough = c.put_lowest.ensures }) least in
    let few = s.arcs.now.form.valid.head.alphabet_high in
    omega arith

pub returns : goal.returns
returns c =
    let s = c.args.column.now in
    let near = c.put_lowest.new.near in
    let least = subst (λ o. MatchOption o (IsEmpty near) (Lowest (LabelIn (graph s) (Has near)))) c.unwrap-x.ensures c.lowest.ensures in (
      taken {In = Has c.args.set.now} (record { sized = s.ready; within = c.requires.0; enough = c.put_lowest.ensures }) least c.clear.ensures
          c.put_of_label.ensures,
      c.clear-2.ensures,
    )
