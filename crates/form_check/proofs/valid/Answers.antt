-- `form_check::valid` meets its contract: the five tests in their order, the last two in one loop.
use Rattle.std.proofs.Common.{◌≡◌, sym, ap, ◌∙◌, arith}
use Rattle.automaton.specs.Form.{byte0, letters_of}
use Rattle.form_check.specs.ChecksLaws.{rest_letters, rest_arcs}
use Rattle.form_check.proofs.valid.Goals as goal

pub returns-then-are_letters : goal.returns-then-are_letters
returns-then-are_letters c =
    let s = c.in-Some in
    let parts = s.ensures.cases.0 in
    let l : c.letters-l.result ≡ byte0 s.field-0-0.now = c.letters-l.ensures ∙ ap letters_of parts in
    (rw l at c.are_arcs.ensures)
    ∙ sym
    (rest_arcs c.args.form.now s.field-0-0.now s.rest.now parts
    (sym c.is_head.ensures ∙ c.if-not-is_head.false)
    (omega arith)
    (sym (rw l at c.are_letters.ensures) ∙ c.if-are_letters.true))

pub returns-else-are_letters : goal.returns-else-are_letters
returns-else-are_letters c =
    let s = c.in-Some in
    let parts = s.ensures.cases.0 in
    let l : c.letters-l.result ≡ byte0 s.field-0-0.now = c.letters-l.ensures ∙ ap letters_of parts in
    c.if-are_letters.false
    ∙ sym
    (rest_letters c.args.form.now s.field-0-0.now s.rest.now parts
    (sym c.is_head.ensures ∙ c.if-not-is_head.false)
    (omega arith)
    (sym (rw l at c.are_letters.ensures) ∙ c.if-are_letters.false))
