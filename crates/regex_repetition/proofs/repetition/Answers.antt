-- `regex_repetition::repetition` meets its contract.
use Rattle.std.proofs.lemmas.Result.{err_from_is_err_and}
use Rattle.regex_repetition.specs.SignLaws.{repetition_refused, repetition_found}
use Rattle.regex_repetition.proofs.repetition.Goals as goal

pub returns-in_err-found : goal.returns-in_err-found
returns-in_err-found c =
    let p = err_from_is_err_and c.from_residual.result c.from_residual.ensures.1 in
    rw (p.1, p.2) (repetition_refused c.args.text.now c.args.at _ c.in_err-found.ensures)

pub returns : goal.returns
returns c = rw c.after_modifier.ensures (repetition_found c.args.text.now c.args.at c.in_ok-found.found c.in_ok-found.ensures)
