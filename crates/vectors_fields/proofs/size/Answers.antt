-- `vectors_fields::size` meets its contract.
use Rattle.std.proofs.Common.{false, get_or, ap, ◌∙◌, ne_eqb}
use Rattle.vectors_fields.specs.Fields.{numbers_of}
use Rattle.vectors_fields.specs.NumbersLoops.{first_number}
use Rattle.vectors_fields.proofs.size.Goals as goal

pub returns : goal.returns
returns c =
    let numbers = c.numbers in
    let f = c.args.field.now in
    let other = ne_eqb (get_or f 0 0) 45 (λ e. c.if-peek-eq45.false (c.peek.ensures ∙ e)) in
    rw other (ap (λ l. get_or l 0 0) numbers.ensures.wrote.memory ∙ first_number (numbers_of false f))
