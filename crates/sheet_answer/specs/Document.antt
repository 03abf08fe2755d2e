-- Document 01's sheet and some of its lines to try, as inputs of the sheet program, and what is printed for each, computed. The crate
-- `sheet` uses the first.
use Rattle.std.specs.Prelude.{ℕ, ◌≡◌, refl, take}
use Rattle.std.proofs.Math.Option.{some, none}
use mathlib.Core.List.{List, [], ◌∷◌, flat_map, flatten}
use Rattle.lists.specs.Lists.{any, keep, numbers}
use Rattle.lists.specs.Each.{all}
use Rattle.refusal.specs.Verdict.{unless, if_passed, first_refusal}
use Rattle.ctc.specs.Collapse.{merge, without_blanks, collapse}
use Rattle.automaton.specs.Form.{encode}
use Rattle.text.specs.Bytes.{bytes}
use Rattle.regex_tree.specs.Letters.{labels_of, letter_count}
use Rattle.regex_tree.specs.Classes.{classes, look_up, class_ranges}
use Rattle.regex_tree.specs.Parsing.{then, enclosed}
use Rattle.text.specs.Text.{split}
use Rattle.lists.specs.Cases.{first_of, provided}
use Rattle.regex_tree.specs.Sets.{closed as closes, reserved, items, members, ranges_of, known, inside, bracket, escaped, a_set, labelled_set}
use Rattle.regex_tree.specs.Repetition.{number, from_on, from_to, comma, counts, sign, repetition}
use Rattle.regex_tree.specs.Parse.{grouped, step, go, parse, whole, expression_of}
use Rattle.positions.specs.Opened.{any_of, copies, nested, repeated, opened, labels}
use Rattle.positions.specs.Numbered.{numbered, position_automaton}
use Rattle.compile.specs.Call.{compile_call}
use Rattle.read.proofs.Cases.{cases, cases_stated}
use Rattle.text_lines.specs.Lines.{onto, pieces, both, closed}
use Rattle.sheet_format.specs.Sheet.{every, numeral_of, cost_of, column_of, laid, sheet_from, sheet_of}
use Rattle.sheet_decimal.specs.Numerals.{digits, decimal}
use Rattle.sheet_path.specs.Labels.{following, spaced}
use Rattle.sheet_read.specs.Promise.{Answers}
use Rattle.sheet_read.proofs.PromiseLaws.{answers_printed}
use Rattle.sheet_answer.specs.Answer.{Prints}
use Rattle.sheet_answer.specs.AnswerLaws.{prints_unique}

-- "Input in full" and "Output in full"
pub document_prints : Prints (bytes "ab\naa\n5 1 9\n5 1 9\n5 1 9\n") (bytes "7\naa\n1 0 1\n")
unfolding cases onto pieces both every closed cost_of numeral_of column_of flatten laid sheet_from sheet_of provided digits decimal following spaced flat_map collapse merge without_blanks first_refusal compile_call if_passed unless keep numbers encode labels_of letter_count then first_of split enclosed closes reserved items members ranges_of class_ranges look_up classes known inside bracket escaped a_set labelled_set number from_on from_to comma counts sign repetition grouped step go parse whole expression_of any_of copies nested repeated opened labels numbered position_automaton
document_prints = record { outcome = some (1 ∷ 0 ∷ 1 ∷ []); is = cases_stated.1.0.0; lines = refl }

-- the program's output: the first bytes of its memory
pub document_written :
    (out out' : List ℕ) (n : ℕ) → Answers (Prints (bytes "ab\naa\n5 1 9\n5 1 9\n5 1 9\n")) out out' n → take n out' ≡ bytes "7\naa\n1 0 1\n"
document_written out out' n a =
    prints_unique (bytes "ab\naa\n5 1 9\n5 1 9\n5 1 9\n") (take n out') (bytes "7\naa\n1 0 1\n")
    (answers_printed (Prints (bytes "ab\naa\n5 1 9\n5 1 9\n5 1 9\n")) out out' n a).0 document_prints

-- two columns that differ; no column: three lines, two of them empty; two columns are too few for `aa`; 18 before 1; 8; 12 before 13; 19;
-- three columns are enough for `aa`, but the blank is barred between them; a barred blank that is not on the path; two shapes of seven
pub others_print :
    Prints (bytes "ab\nab\n5 1 9\n5 9 2\n") (bytes "3\nab\n1 2\n")
    × Prints (bytes "ab\na*\n") (bytes "0\n\n\n")
    × Prints (bytes "ab\naa\n5 1 9\n5 1 9\n") (bytes "refused 16\n")
    × Prints (bytes "\t\n") (bytes "refused 18\n")
    × Prints (bytes "ab\nc\n") (bytes "refused 8\n")
    × Prints (bytes "ab\na\n1000001 2\n") (bytes "refused 12\n")
    × Prints (bytes "ab\n[[:x:]]\n") (bytes "refused 19\n")
    × Prints (bytes "ab\naa\n5 1 9\n- 1 9\n5 1 9\n") (bytes "refused 16\n")
    × Prints (bytes "ab\na\n- 7 0\n0 2 0\n") (bytes "7\na\n1 0\n")
    × Prints (bytes "77\n77\n0 1 5\n0 5 1\n") (bytes "2\n77\n1 2\n")
unfolding cases onto pieces both every closed cost_of numeral_of column_of flatten laid sheet_from sheet_of provided digits decimal following spaced flat_map collapse merge without_blanks first_refusal compile_call if_passed unless keep numbers encode labels_of letter_count then first_of split enclosed closes reserved items members ranges_of class_ranges look_up classes known inside bracket escaped a_set labelled_set number from_on from_to comma counts sign repetition grouped step go parse whole expression_of any_of copies nested repeated opened labels numbered position_automaton
others_print = (
  record { outcome = some (1 ∷ 2 ∷ []); is = cases_stated.0.0; lines = refl },
  record { outcome = some []; is = cases_stated.1.1.1.0.0; lines = refl },
  record { outcome = none; is = cases_stated.1.1.0.0; lines = refl },
  refl,
  refl,
  refl,
  refl,
  record { outcome = none; is = cases_stated.1.1.1.1.1.1.1.1.1.1.0.0; lines = refl },
  record { outcome = some (1 ∷ 0 ∷ []); is = cases_stated.1.1.1.1.1.1.1.1.1.1.1.0.0; lines = refl },
  record { outcome = some (1 ∷ 2 ∷ []); is = cases_stated.1.1.1.1.1.1.1.1.1.1.1.1.1.1.0.0; lines = refl },
)
