-- `text::find` meets its contract: no more bytes are before the sign than the text has from there on.
use Rattle.std.proofs.Common.{arith, length-drop}
use Rattle.text.proofs.TextLaws.{until_within, until_past_end}
use Rattle.text.proofs.find.Goals as goal

pub overflow_add-result : goal.overflow_add-result
overflow_add-result c =
    let w = until_within c.args.sign c.in-Some.rest.now in
    let e = c.before-in-Some.ensures in
    let n = length-drop c.args.from c.args.text.now in
    let l = c.in-Some.ensures.lookup in
    omega (arith, w, e, n, l)

pub returns-in-None : goal.returns-in-None
returns-in-None c =
    let p = until_past_end c.args.sign c.args.text.now c.args.from in
    grind (arith, c.in-None.ensures.lookup, p)
