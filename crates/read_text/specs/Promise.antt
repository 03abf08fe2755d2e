-- What Read promises (demand 3), stated by the words of the expression.
use Rattle.std.specs.Prelude.{ℕ, ◌≡◌, List, length}
use Rattle.lists.specs.Memory.{written}
use Rattle.refusal.specs.Verdict.{Verdict, passed, refused, first_refusal}
use Rattle.refusal.specs.Checks.{Checks}
use Rattle.refusal.specs.Report.{Report, turned_away}
use Rattle.refusal.specs.Fills.{filling}
use Rattle.automaton.specs.Form.{letters_of}
use Rattle.matrix.specs.Matrix.{Matrix}
use Rattle.regex_tree.specs.Grammar.{WordsOf}
use Rattle.decode_checks.specs.Checks.{needed, matrix_checks}
use Rattle.decode_valid.specs.Answers.{Answers}
use Rattle.decode_valid.specs.Lent.{Lent, rooms}
use Rattle.compile.specs.Call.{compile_call}
use Rattle.alphabet.specs.Labels.{characters}

-- Past Compile, with the form f: refusals 12 to 15, or the outcome for the words of the text, with the word written as characters. 'Past
-- the checks with memory enough' means that no refusal except 16 applies.
abbrev pub ReadsForm : (A s f : List ℕ) (M : Matrix) (before after : Lent) (answer : Report) → Type 0
ReadsForm A s f M before after answer =
    Checks turned_away (first_refusal (matrix_checks (length A) (letters_of f) M (rooms before)))
    (Answers (WordsOf A s) (characters A) (length f) M (needed M.count (letters_of f))) before after answer

-- By what Compile gives for the alphabet and the text: its refusal, with all memory as it was, or the answer by its form.
abbrev pub ReadsBy : Verdict (List ℕ) → (A s : List ℕ) (M : Matrix) (before after : Lent) (answer : Report) → Type 0
ReadsBy (refused n) A s M before after answer = (answer ≡ turned_away n) × (after ≡ before)
ReadsBy (passed f) A s M before after answer = ReadsForm A s f M before after answer

-- Read's promise. The form memory is as Compile leaves it.
pub record Reads (A s : List ℕ) (M : Matrix) (form form' : List ℕ) (before after : Lent) (answer : Report) : Type 0 where
  pub memory : form' ≡ written (filling (compile_call A s (length form))) form
  pub reads : ReadsBy (compile_call A s (length form)) A s M before after answer
