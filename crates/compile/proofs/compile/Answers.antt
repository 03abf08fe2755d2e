-- `compile::compile` meets its contract: refusals 1 to 3, the parser's refusal, too many letters, or the form.
use mathlib.Core.Path.{sym, ◌∙◌, subst}
use native.Mathlib.Omega.{arith}
use lib.ListN.{length}
use Rattle.std.proofs.lemmas.Result.{err_from_is_err_and}
use Rattle.refusal.specs.declared.Refusal.TheVariants.{Letters}
use Rattle.refusal.specs.Fills.{reported, Fills}
use Rattle.refusal.proofs.ReportLaws.{fills_refused}
use Rattle.alphabet.proofs.AlphabetLaws.{text_alphabet}
use Rattle.compile.specs.Call.{compile_call}
use Rattle.compile.proofs.CallLaws.{call_refused, call_passed, text_refused, text_many, text_compilable, text_form}
use Rattle.compile.proofs.compile.Goals as goal

pub returns-in_err-check_text : goal.returns-in_err-check_text
returns-in_err-check_text c =
    let A = c.args.alphabet.now in
    let t = c.args.text.now in
    let m = c.args.form.now in
    let p = err_from_is_err_and c.from_residual.result c.from_residual.ensures.1 in
    rw (p.1, p.2) (fills_refused (compile_call A t (length m)) _ m (call_refused A t (length m) _ c.in_err-check_text.ensures))

pub returns-in_err-letters : goal.returns-in_err-letters
returns-in_err-letters c =
    let A = c.args.alphabet.now in
    let t = c.args.text.now in
    let m = c.args.form.now in
    let p = err_from_is_err_and c.from_residual-in_err-letters.result c.from_residual-in_err-letters.ensures.1 in
    let passed = call_passed A t (length m) c.in_ok-check_text.ensures in
    rw (p.1, p.2) (fills_refused (compile_call A t (length m)) _ m (passed ∙ text_refused A t (length m) _ c.in_err-letters.ensures))

pub returns-then-letters-gt127 : goal.returns-then-letters-gt127
returns-then-letters-gt127 c =
    let A = c.args.alphabet.now in
    let t = c.args.text.now in
    let m = c.args.form.now in
    let passed = call_passed A t (length m) c.in_ok-check_text.ensures in
    fills_refused (compile_call A t (length m)) Letters m (passed ∙ text_many A t (length m) _ c.in_ok-letters.ensures (omega arith))

pub write-requires : goal.write-requires
write-requires c =
    let A = c.args.alphabet.now in
    let t = c.args.text.now in
    (text_alphabet A t c.in_ok-check_text.ensures, text_compilable A t (length c.args.form.now) _ c.in_ok-letters.ensures (omega arith))

pub returns : goal.returns
returns c =
    let A = c.args.alphabet.now in
    let t = c.args.text.now in
    let m = c.args.form.now in
    let wrote = c.write in
    let some = text_compilable A t (length m) _ c.in_ok-letters.ensures (omega arith) in
    subst (λ v. Fills v (reported wrote.result) m wrote.new.form)
    (sym (call_passed A t (length m) c.in_ok-check_text.ensures ∙ text_form A t (length m) some)) wrote.ensures
