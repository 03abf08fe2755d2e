-- `read_text::read_parts` meets its contract: Compile's refusal, or the answer by the form that it wrote.
use Rattle.std.proofs.Common.{sym, ap, ◌∙◌}
use lib.Seq.{length-take-le}
use Rattle.automaton.proofs.ValidLaws.{valid_at}
use Rattle.automaton.specs.Form.{alphabet_of}
use Rattle.matrix.specs.View.{value}
use Rattle.decode_valid.specs.Lent.{lent}
use Rattle.read_text.specs.StepsLaws.{compiled, compiled_fits, compiled_form, compiled_text, reads_form}
use Rattle.read_text.proofs.read_parts.Goals as goal

pub slice_bounds-new-end : goal.slice_bounds-new-end
slice_bounds-new-end c =
    let A = c.args.alphabet.now in
    let t = c.args.text.now in
    let m = c.args.form.now in
    let left = c.compile.new.form in
    compiled_fits A t m left c.in_ok-n.n (compiled A t m left c.in_ok-n.n c.in_ok-n.ensures)

pub slice_bounds-new-end-2 : goal.slice_bounds-new-end-2
slice_bounds-new-end-2 c =
    let A = c.args.alphabet.now in
    let t = c.args.text.now in
    let m = c.args.form.now in
    let left = c.compile.new.form in
    sym (length-take-le c.in_ok-n.n left (compiled_fits A t m left c.in_ok-n.n (compiled A t m left c.in_ok-n.n c.in_ok-n.ensures)))

pub new-requires : goal.new-requires
new-requires c =
    let A = c.args.alphabet.now in
    let t = c.args.text.now in
    let m = c.args.form.now in
    let left = c.compile.new.form in
    let made = compiled A t m left c.in_ok-n.n c.in_ok-n.ensures in
    let means = compiled_text A t m left c.in_ok-n.n made in
    rw (compiled_form A t m left c.in_ok-n.n made) (valid_at made.words means.valid)

pub read_form-requires : goal.read_form-requires
read_form-requires c =
    let A = c.args.alphabet.now in
    let t = c.args.text.now in
    let m = c.args.form.now in
    let left = c.compile.new.form in
    let made = compiled A t m left c.in_ok-n.n c.in_ok-n.ensures in
    let means = compiled_text A t m left c.in_ok-n.n made in
    ap (λ w. alphabet_of w.now) c.new.ensures ∙ ap alphabet_of (compiled_form A t m left c.in_ok-n.n made) ∙ means.alphabet

pub returns : goal.returns
returns c =
    let a = c.args in
    let A = a.alphabet.now in
    let t = a.text.now in
    let m = a.form.now in
    let left = c.compile.new.form in
    let made = compiled A t m left c.in_ok-n.n c.in_ok-n.ensures in
    reads_form A t m left c.in_ok-n.n made (value a.matrix) (lent a.path.now a.word.now a.work.now) _ _
    (rw (ap (λ w. w.now) c.new.ensures ∙ compiled_form A t m left c.in_ok-n.n made) at c.read_form.ensures)
