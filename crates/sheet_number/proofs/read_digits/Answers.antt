-- `sheet_number::read_digits` meets its contract: the value of at most six digits stays small, and one digit more goes to its end.
use Rattle.std.proofs.Common.{◌+◌, refl, sym, ◌∙◌, arith}
use Rattle.sheet_number.specs.DigitsLaws.{begun_small, begun_next, rest_at}
use Rattle.sheet_number.proofs.read_digits.Goals as goal

pub overflow_mul-value : goal.overflow_mul-value
overflow_mul-value c =
    let l = c.loop-count in
    let few = l.invariant.few in
    let small = begun_small c.args.input.now c.args.at (c.args.at + l.count) l.value l.invariant (omega arith) in
    omega arith

pub overflow_add-value : goal.overflow_add-value
overflow_add-value c =
    let l = c.loop-count in
    let few = l.invariant.few in
    let small = begun_small c.args.input.now c.args.at (c.args.at + l.count) l.value l.invariant (omega arith) in
    let byte = c.type_inv.input (c.args.at + l.count) in
    let same = rest_at c.args.input.now c.args.at l.count (omega arith) in
    omega (arith, c.from.ensures)

pub loop-count-preserved : goal.loop-count-preserved
loop-count-preserved c =
    let l = c.loop-count in
    let few = l.invariant.few in
    rw c.from.ensures
    (begun_next c.args.input.now c.args.at l.count l.value _ l.invariant (omega arith) (omega arith) refl
    (sym c.is_ascii_digit.ensures.value ∙ c.if-not-is_ascii_digit.false))
