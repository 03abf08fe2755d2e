-- `regex_parse::expression` meets its contract.
use Rattle.std.proofs.lemmas.Result.{err_from_is_err_and}
use Rattle.regex_tree.specs.Parse.{m_alternation}
use Rattle.regex_parse.specs.PartsLaws.{part_found}
use Rattle.regex_parse.specs.ParsedLaws.{parsed_refused, parsed_stray, parsed_letters}
use Rattle.regex_parse.proofs.expression.Goals as goal

pub returns-in_err-whole : goal.returns-in_err-whole
returns-in_err-whole c =
    let p = err_from_is_err_and c.from_residual.result c.from_residual.ensures.1 in
    rw (p.1, p.2) (parsed_refused c.args.alphabet.now c.args.text.now _ c.in_err-whole.ensures)

pub returns-then-whole-text : goal.returns-then-whole-text
returns-then-whole-text c =
    let a = c.args in
    let w = c.in_ok-whole.whole in
    let f = part_found a.alphabet.now a.text.now m_alternation 16 0 w.end w.letters c.in_ok-whole.ensures in
    parsed_stray a.alphabet.now a.text.now w.end w.letters f c.if-whole-text.true

pub returns : goal.returns
returns c =
    let a = c.args in
    let w = c.in_ok-whole.whole in
    let f = part_found a.alphabet.now a.text.now m_alternation 16 0 w.end w.letters c.in_ok-whole.ensures in
    parsed_letters a.alphabet.now a.text.now w.end w.letters f c.if-whole-text.false
