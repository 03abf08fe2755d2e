-- `sheet::answer_input` meets its contract: after a read that failed nothing is printed.
use Rattle.std.proofs.Common.{[], refl, sym, subst, Err}
use Rattle.lists.proofs.WrittenLaws.{written_none}
use Rattle.sheet_read.specs.Promise.{Answers}
use Rattle.sheet_read.proofs.PromiseLaws.{answers}
use Rattle.sheet.specs.Inputs.{PrintsInput}
use Rattle.sheet.proofs.answer_input.Goals as goal

pub returns-in-Err : goal.returns-in-Err
returns-in-Err c =
    let a = c.args in
    let failed = PrintsInput (Err c.in-Err.field-0) a.buffer.now in
    let nothing = answers failed [] a.out.now a.out.now 0 refl (record { count = refl; memory = sym (written_none a.out.now) }) in
    subst (λ i. Answers (PrintsInput i a.buffer.now) a.out.now a.out.now 0) (sym c.in-Err.is) nothing
