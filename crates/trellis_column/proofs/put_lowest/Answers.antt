-- `trellis_column::put_lowest` meets its contract: the blank is the lowest label, so kept blanks are enough.
use Rattle.lists.specs.Marks.{Has}
use Rattle.trellis_steps.specs.Kept.{words, graph}
use Rattle.trellis_steps.specs.Loops.{members_put}
use Rattle.trellis_members.specs.MembersLaws.{lists_has}
use Rattle.trellis_column.specs.ColumnLaws.{lowest_blanks, lowest_all}
use Rattle.trellis_column.proofs.put_lowest.Goals as goal

pub put_kept-requires : goal.put_kept-requires
put_kept-requires c = λ s l. c.requires.0 s (lists_has c.listed.ensures s l)

pub returns-then-is_empty : goal.returns-then-is_empty
returns-then-is_empty c =
    let a = c.args in
    let s = a.column.now in
    lowest_all (words s) s.costs.now s.row.now s.left (Has a.from.now) c.if-is_empty.ensures c.requires.1
    (members_put (graph s) s.costs.now s.row.now s.left c.put_blanks.new.to c.put_kept.new.to c.listed.ensures c.put_kept.ensures)

pub returns-else-is_empty : goal.returns-else-is_empty
returns-else-is_empty c =
    let a = c.args in
    let s = a.column.now in
    lowest_blanks (words s) s.costs.now s.row.now s.left (Has a.from.now) c.requires.2 s.ready c.requires.0 c.put_blanks.ensures
    c.if-is_empty.ensures
