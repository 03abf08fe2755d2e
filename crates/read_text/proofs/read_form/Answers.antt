-- `read_text::read_form` meets its contract: the first refusal that applies, or the answer past the checks.
use Rattle.std.proofs.Common.{length, sym, ap, ◌∙◌, subst}
use Rattle.refusal.specs.Verdict.{first_refusal}
use Rattle.automaton.specs.Form.{letters_of}
use Rattle.matrix.specs.View.{value}
use Rattle.decode_checks.specs.Checks.{matrix_checks}
use Rattle.decode_checks.specs.Passing.{Fits}
use Rattle.decode_checks.proofs.PassingLaws.{fits}
use Rattle.decode_valid.specs.Lent.{lent, rooms}
use Rattle.read_text.proofs.read_form.Goals as goal

pub read_valid-requires : goal.read_valid-requires
read_valid-requires c =
    let a = c.args in
    let f = a.form.words.now in
    let M = value a.matrix in
    let r = rooms (lent a.path.now a.word.now a.work.now) in
    let passed =
    ap (λ l. first_refusal (matrix_checks (length a.alphabet.now) l M r)) (sym c.letters.ensures) ∙ sym c.check_matrix.ensures
    ∙ c.in_ok-check_matrix.was in
    (subst (λ k. Fits k (letters_of f) M r) (sym c.requires) (fits (length a.alphabet.now) (letters_of f) M r passed), c.requires)
