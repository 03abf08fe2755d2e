-- `decode::decode_matrix` meets its contract: what passes the checks fits the form.
use Rattle.std.proofs.Common.{sym, ap₂, ◌∙◌}
use Rattle.refusal.specs.Verdict.{first_refusal}
use Rattle.automaton.specs.Form.{alphabet_of, letters_of}
use Rattle.matrix.specs.View.{value}
use Rattle.decode_checks.specs.Checks.{matrix_checks}
use Rattle.decode_checks.proofs.PassingLaws.{fits}
use Rattle.decode_valid.specs.Lent.{lent, rooms}
use Rattle.decode.proofs.decode_matrix.Goals as goal

pub decode_valid-requires : goal.decode_valid-requires
decode_valid-requires c =
    let f = c.in-Some.form.words.now in
    let M = value c.args.matrix in
    let r = rooms (lent c.args.path.now c.args.word.now c.args.work.now) in
    fits (alphabet_of f) (letters_of f) M r
    (ap₂ (λ k l. first_refusal (matrix_checks k l M r)) (sym c.alphabet.ensures) (sym c.letters.ensures) ∙ sym c.check_matrix.ensures ∙ c.in_ok-check_matrix.was)
