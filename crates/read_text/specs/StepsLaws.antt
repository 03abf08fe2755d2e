-- Laws: from the answer by the words of a compiled form to what Read promises by the words of the text.
use Rattle.std.specs.Prelude.{ℕ, ◌≤◌, ◌≡◌, refl, List, length, take, Result, Ok, Err}
use Rattle.std.proofs.Common.{sym, ap, ◌∙◌, arith}
use Rattle.lists.proofs.WrittenLaws.{take_written, written_fits}
use Rattle.lists.specs.Memory.{written}
use Rattle.refusal.specs.declared.Refusal.{Refusal}
use Rattle.refusal.proofs.NumberLaws.{number_between}
use Rattle.refusal.specs.Verdict.{Verdict, passed, refused, first_refusal}
use Rattle.refusal.specs.Checks.{Checks}
use Rattle.refusal.specs.Report.{Report, turned_away}
use Rattle.refusal.specs.Fills.{counted, report, filling, Fills}
use Rattle.automaton.specs.Automaton.{Accepts}
use Rattle.automaton.specs.Form.{view, letters_of}
use Rattle.matrix.specs.Matrix.{Matrix}
use Rattle.outcome.proofs.OutcomeLaws.{outcome_same}
use Rattle.regex_tree.specs.Grammar.{WordsOf}
use Rattle.compile.specs.Call.{compile_call}
use Rattle.compile.proofs.Meaning.{compiled_means}
use Rattle.compile.specs.Means.{Means}
use Rattle.decode_checks.specs.Checks.{needed, matrix_checks}
use Rattle.decode_valid.specs.Answers.{Answers}
use Rattle.decode_valid.proofs.AnswersLaws.{answers_same}
use Rattle.decode_valid.specs.Lent.{Lent, rooms}
use Rattle.alphabet.specs.Labels.{characters}
use Rattle.read_valid.specs.Accepted.{ReadsAccepted}
use Rattle.read_text.specs.Promise.{Reads}
use Rattle.read_text.specs.ChecksForm.{ChecksForm}

-- the words that the form accepts are those of the text
pub read_words :
    (A s f : List ℕ) (M : Matrix) (before after : Lent) (answer : Report) → Means A s f → ReadsAccepted A f M before after answer
    → Answers (WordsOf A s) (characters A) (length f) M (needed M.count (letters_of f)) before after answer
read_words A s f M before after answer m =
    answers_same (Accepts (view f)) (WordsOf A s) (outcome_same M (Accepts (view f)) (WordsOf A s) (λ w. (m.words w).0) (λ w. (m.words w).1))

-- the same, where the checks may refuse
checked_words :
    (A s f : List ℕ) (M : Matrix) (c : Result (Unit {0}) Refusal) (before after : Lent) (answer : Report) → Means A s f → Checks turned_away c (ReadsAccepted A f M) before after answer
    → Checks turned_away c (Answers (WordsOf A s) (characters A) (length f) M (needed M.count (letters_of f))) before after answer
checked_words A s f M (Err n) before after answer m h = h
checked_words A s f M (Ok _) before after answer m h = read_words A s f M before after answer m h

-- the form that Compile wrote, from what it reports
pub record Compiled (A s form after : List ℕ) (n : ℕ) : Type 0 where
  pub words : List ℕ
  pub call : compile_call A s (length form) ≡ passed words
  pub count : n ≡ length words
  pub memory : after ≡ written words form

module _ (A s form after : List ℕ) where
  pub compiled : (n : ℕ) → Fills (compile_call A s (length form)) (counted n) form after → Compiled A s form after n
  compiled n h = by (compile_call A s (length form)) refl h.answered h.memory
    where
      by :
          (v : Verdict (List ℕ)) → compile_call A s (length form) ≡ v → counted n ≡ report v → after ≡ written (filling v) form
          → Compiled A s form after n
      by (refused m) e r w = absurd (let q = ap (λ (x : Report). x.number) r in let k = (number_between m).0 in omega arith)
      by (passed f) e r w = record { words = f; call = e; count = ap (λ (x : Report). x.filled) r; memory = w }

  -- refused by Compile
  pub reads_refused :
      (M : Matrix) (lent : Lent) (n : Refusal) → Fills (compile_call A s (length form)) (turned_away n) form after
      → Reads A s M form after lent lent (turned_away n)
  reads_refused M lent n h = by (compile_call A s (length form)) refl h.answered
    where
      by : (v : Verdict (List ℕ)) → compile_call A s (length form) ≡ v → turned_away n ≡ report v → Reads A s M form after lent lent (turned_away n)
      by (refused m) e r = record { memory = h.memory; reads = rw e (r, refl) }
      by (passed f) e r = absurd (let q = ap (λ (x : Report). x.number) r in let k = (number_between n).0 in omega arith)

  module _ (n : ℕ) (c : Compiled A s form after n) where
    pub compiled_fits : n ≤ length after
    compiled_fits = let e = ap length c.memory in let k = c.count in omega (arith, written_fits c.words form)

    pub compiled_form : take n after ≡ c.words
    compiled_form = ap (take n) c.memory ∙ take_written c.words form n c.count

    pub compiled_text : Means A s c.words
    compiled_text = compiled_means A s (length form) c.words c.call

    pub reads_form :
        (M : Matrix) (lent lent' : Lent) (answer : Report) → ChecksForm A c.words M lent lent' answer → Reads A s M form after lent lent' answer
    reads_form M lent lent' answer h =
        record {
          memory = c.memory ∙ sym (ap (λ v. written (filling v) form) c.call);
          reads =
              rw c.call
              (checked_words A s c.words M (first_refusal (matrix_checks (length A) (letters_of c.words) M (rooms lent))) lent lent' answer compiled_text h);
        }
