-- `sheet_number::read_cost` meets its contract: a lone `-`, or a number.
use Rattle.std.proofs.Common.{sym, ◌∙◌}
use Rattle.sheet_number.specs.CostsLaws.{bar_as_cost, number_as_cost}
use Rattle.sheet_number.proofs.read_cost.Goals as goal

pub returns-then-is_bar : goal.returns-then-is_bar
returns-then-is_bar c =
    let a = c.args in
    bar_as_cost a.input.now a.at (sym c.is_bar.ensures ∙ c.if-is_bar.true)

pub returns : goal.returns
returns c =
    let a = c.args in
    let n = c.read_number in
    number_as_cost a.input.now a.at (sym c.is_bar.ensures ∙ c.if-is_bar.false) n.result n.ensures
