-- `sheet_decimal::Output::put_decimal` meets its contract: the library's numeral is ours.
use Rattle.std.proofs.Common.{◌≡◌, ◌∙◌, sym, arith, length, ap}
use Rattle.sheet_decimal.specs.Numerals.{decimal}
use Rattle.sheet_decimal.specs.NumeralsLaws.{decimal_text}
use Rattle.sheet_decimal.proofs.Output.put_decimal.Goals as goal

pub put_bytes-requires : goal.put_bytes-requires
put_bytes-requires c =
    let e : c.as_bytes.result.now ≡ decimal c.args.x = c.as_bytes.ensures.value ∙ c.format.ensures.text ∙ sym (decimal_text c.args.x (omega (arith, c.ranges.x.fits))) in
    let l = ap length e in
    let r = c.requires in
    omega arith

pub returns-clause-stored : goal.returns-clause-stored
returns-clause-stored c =
    let e : c.as_bytes.result.now ≡ decimal c.args.x = c.as_bytes.ensures.value ∙ c.format.ensures.text ∙ sym (decimal_text c.args.x (omega (arith, c.ranges.x.fits))) in
    rw e at c.put_bytes.ensures.stored
