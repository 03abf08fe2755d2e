-- What is printed for document 01's sheet after it was read to its end, and after a read that failed.
-- For the reader: nothing uses it.
use Rattle.std.specs.Prelude.{◌≡◌, List, [], ℕ, Ok, Err}
use Rattle.text.specs.Bytes.{bytes}
use Rattle.sheet_answer.specs.AnswerLaws.{prints_unique}
use Rattle.sheet_answer.specs.Document.{document_prints}
use Rattle.sheet.specs.Inputs.{PrintsInput, buffer}

whole_input : (E : Type 0) (output : List ℕ) → PrintsInput {E = E} (Ok 24) buffer output → output ≡ bytes "7\naa\n1 0 1\n"
whole_input E output h = prints_unique (bytes "ab\naa\n5 1 9\n5 1 9\n5 1 9\n") output (bytes "7\naa\n1 0 1\n") h document_prints

failed_input : {E : Type 0} (e : E) (output : List ℕ) → PrintsInput (Err e) buffer output → output ≡ []
failed_input e output h = h
