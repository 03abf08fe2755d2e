-- `regex_set::set` meets its contract.
use Rattle.std.proofs.Common.{drop}
use Rattle.std.proofs.lemmas.Result.{err_from_is_err_and}
use Rattle.regex_set.specs.SetsLaws.{part_refused}
use Rattle.regex_set.proofs.set.Goals as goal

pub returns-in_err-end : goal.returns-in_err-end
returns-in_err-end c =
    let a = c.args in
    let p = err_from_is_err_and c.from_residual.result c.from_residual.ensures.1 in
    rw (p.1, p.2) (part_refused a.alphabet.now a.text.now (drop a.at a.text.now) _ c.in_err-end.ensures)
