-- `compare::compare_matrix` meets its contract: what passes the checks fits both forms.
use Rattle.std.proofs.Common.{rules, sym, ap₂, ◌∙◌}
use Rattle.std.specs.Prelude.{◌≡◌, true, max, length, Ok}
use Rattle.refusal.specs.Verdict.{first_refusal}
use Rattle.automaton.specs.Form.{valid_form, alphabet_of, letters_of}
use Rattle.matrix.specs.View.{value}
use Rattle.decode_checks.specs.Checks.{matrix_checks}
use Rattle.comparison.proofs.PassingLaws.{work_alone, fits_both_exactly, equal_alphabets}
use Rattle.compare.proofs.compare_matrix.Goals as goal

pub compare_valid-requires : goal.compare_valid-requires
compare_valid-requires c =
    let f = c.in-Some.first.words.now in
    let g = c.in-Some-checked.second.words.now in
    let M = value c.args.matrix in
    let room = length c.args.work.now in
    let one : valid_form f ≡ true = search rules in
    let two : valid_form g ≡ true = search rules in
    let equal : alphabet_of g ≡ alphabet_of f = search rules in
    let told : first_refusal (matrix_checks (alphabet_of f) (max (letters_of f) (letters_of g)) M (work_alone M room)) ≡ Ok tt =
    ap₂ (λ k l. first_refusal (matrix_checks k l M (work_alone M room))) (sym c.alphabet-k.ensures) (sym (c.max-l.ensures ∙ ap₂ max c.letters.ensures c.letters-2.ensures))
    ∙ sym c.check_matrix.ensures ∙ c.in_ok-check_matrix.was in
    (fits_both_exactly f g M room).0 (equal_alphabets f g M room one two equal ∙ told)
