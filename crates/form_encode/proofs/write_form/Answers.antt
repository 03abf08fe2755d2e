-- `form_encode::write_form` meets its contract: refusal 10 if the memory is shorter than the form, else the form's words.
use Prim.Native.Nat.{◌<◌, ◌≤◌}
use mathlib.Core.Path.{◌∙◌}
use mathlib.Core.List.{[]}
use native.Mathlib.Omega.{arith}
use lib.ListN.{length}
use lib.Dec.{ltb}
use borrow.Author.Tests.{lt-ltb, le-ltb}
use Rattle.refusal.specs.declared.Refusal.TheVariants.{FormMemory}
use Rattle.refusal.proofs.VerdictLaws.{unless_holds, unless_fails, unless_none}
use Rattle.refusal.proofs.ReportLaws.{fills_refused, fills_wrote}
use Rattle.automaton.specs.Form.{encode}
use Rattle.form_encode.specs.Call.{form_call}
use Rattle.automaton.specs.Arrays.{arrayed}
use Rattle.form_encode.specs.WholeLaws.{length_words}
use Rattle.form_encode.proofs.write_form.Goals as goal

pub returns-then-form-a : goal.returns-then-form-a
unfolding form_call
returns-then-form-a c =
    let s = c.args in
    let A = arrayed s.a.letters s.a.empty s.a.labels.now s.a.first.now s.a.last.now s.a.follow.now in
    let words = encode s.a.alphabet A in
    let room = length s.form.now in
    let size = length_words s.a.alphabet s.a.letters s.a.empty s.a.labels.now s.a.first.now s.a.last.now s.a.follow.now in
    let e = c.count_arcs.ensures.0 in
    let h : room < length words = omega arith in
    fills_refused (form_call s.a.alphabet A room) FormMemory s.form.now (unless_holds words (ltb room (length words)) FormMemory [] (lt-ltb room (length words) h))

pub write_words-requires : goal.write_words-requires
write_words-requires c =
    let s = c.args in
    let size = length_words s.a.alphabet s.a.letters s.a.empty s.a.labels.now s.a.first.now s.a.last.now s.a.follow.now in
    let e = c.count_arcs.ensures.0 in
    omega arith

pub returns : goal.returns
unfolding form_call
returns c =
    let s = c.args in
    let A = arrayed s.a.letters s.a.empty s.a.labels.now s.a.first.now s.a.last.now s.a.follow.now in
    let words = encode s.a.alphabet A in
    let room = length s.form.now in
    let size = length_words s.a.alphabet s.a.letters s.a.empty s.a.labels.now s.a.first.now s.a.last.now s.a.follow.now in
    let e = c.count_arcs.ensures.0 in
    let h : length words ≤ room = omega arith in
    let w = c.write_words in
    fills_wrote (form_call s.a.alphabet A room) words s.form.now w.new.form w.result
    (unless_fails words (ltb room (length words)) FormMemory [] (le-ltb room (length words) h) ∙ unless_none words) w.ensures
