-- `compile_list::compile_list` meets its contract: a refusal by the checks, or what the words give.
use Rattle.std.proofs.Common.{sym, subst, length}
use Rattle.std.proofs.lemmas.Result.{err_from_is_err_and}
use Rattle.refusal.specs.Fills.{reported, Fills}
use Rattle.refusal.proofs.ReportLaws.{fills_refused}
use Rattle.compile_list.specs.Call.{compile_list_call}
use Rattle.compile_list.proofs.CallLaws.{passed_checks, call_refused, call_passed}
use Rattle.compile_list.proofs.compile_list.Goals as goal

pub returns-in_err-check_list : goal.returns-in_err-check_list
returns-in_err-check_list c =
    let A = c.args.alphabet.now in
    let s = c.args.list.now in
    let m = c.args.form.now in
    let r = c.in_err-check_list in
    let p = err_from_is_err_and c.from_residual.result c.from_residual.ensures.1 in
    rw (p.1, p.2) (fills_refused (compile_list_call A s (length m)) r.field-0.0 m (call_refused A s (length m) r.field-0.0 r.ensures))

pub write-requires : goal.write-requires
write-requires c =
    let p = passed_checks c.args.alphabet.now c.args.list.now (sym c.in_ok-check_list.ensures) in
    (p.alphabet.1, p.readable)

pub returns : goal.returns
returns c =
    let A = c.args.alphabet.now in
    let s = c.args.list.now in
    let m = c.args.form.now in
    let f = c.write in
    subst (λ v. Fills v (reported f.result) m f.new.form) (sym (call_passed A s (length m) c.in_ok-check_list.ensures)) f.ensures
