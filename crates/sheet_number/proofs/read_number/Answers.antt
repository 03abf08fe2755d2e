-- `sheet_number::read_number` meets its contract: the digits are a number exactly if the three tests pass.
use Rattle.std.proofs.Common.{◌≡◌, arith, subst, sym}
use Rattle.std.proofs.lemmas.Bool.Decides.{nat_tests}
use Rattle.std.proofs.lemmas.Grind.{common_steps}
use Rattle.sheet_number.specs.Items.{ReadNumber}
use Rattle.sheet_number.specs.DigitsLaws.{number_by_tests, number_passes}
use Rattle.sheet_number.proofs.read_number.Goals as goal

pub returns : goal.returns
returns c =
    let a = c.args in
    let d = c.read_digits-number in
    let tests : c.if-not-is_padded.passes ≡ number_passes a.input.now a.at d.result.end = grind (arith, common_steps, nat_tests) in
    subst (ReadNumber a.input.now a.at) (sym c.then_some.ensures) (number_by_tests a.input.now a.at d.result.end d.result.value d.ensures _ (sym tests))
