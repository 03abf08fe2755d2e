-- From what Read promises to what is printed.
use Rattle.std.specs.Prelude.{ℕ, ◌≤◌, ◌≡◌, refl, List, length, take, Result, Ok, Err}
use Rattle.std.proofs.Common.{sym, ap, ◌∙◌, subst, arith}
use Rattle.std.proofs.Math.Option.{Option, some, none}
use Rattle.std.proofs.lemmas.List.{length-map}
use Rattle.lists.proofs.WrittenLaws.{take_written, written_fits}
use Rattle.lists.specs.Memory.{written}
use Rattle.refusal.specs.declared.Refusal.{Refusal}
use Rattle.refusal.specs.declared.Refusal.TheVariants.{NoReading}
use Rattle.refusal.specs.Number.{number_of}
use Rattle.refusal.proofs.NumberLaws.{number_between}
use Rattle.refusal.specs.Verdict.{Verdict, passed, refused, first_refusal}
use Rattle.refusal.specs.Checks.{Checks}
use Rattle.refusal.specs.Report.{Report, turned_away}
use Rattle.answers.specs.Decoded.{read}
use Rattle.answers.specs.Reading.{reported}
use Rattle.answers.specs.declared.Reading.{Reading}
use Rattle.ctc.specs.Collapse.{collapse}
use Rattle.automaton.specs.Form.{letters_of}
use Rattle.matrix.specs.Matrix.{Matrix, price}
use Rattle.outcome.specs.Outcome.{Outcome}
use Rattle.regex_tree.specs.Grammar.{WordsOf}
use Rattle.compile.specs.Call.{compile_call}
use Rattle.decode_checks.specs.Checks.{needed, matrix_checks}
use Rattle.decode_valid.specs.Answers.{outcome_report, path_of, word_of, Answers}
use Rattle.decode_valid.specs.Lent.{Lent, rooms}
use Rattle.alphabet.specs.Labels.{character, characters}
use Rattle.read_text.specs.Promise.{ReadsBy, Reads}
use Rattle.sheet_lines.specs.Lines.{reading_lines, refusal_line}
use Rattle.sheet_print.specs.Printed.{Shown, answer_lines}
use Rattle.sheet_read.specs.Answer.{form_room, lent_rooms, PrintsOutcome, PrintsChecked, PrintsCompiled, PrintsReading}

-- a report is a refusal's or a reading's, never both
never_both : (n : Refusal) (p k l : ℕ) → read p k l ≡ turned_away n → ⊥
never_both n p k l e = let q = ap (λ (r : Report). r.number) e in let m = (number_between n).0 in omega arith

same_line : (m n : Refusal) → turned_away m ≡ turned_away n → refusal_line (number_of m) ≡ refusal_line (number_of n)
same_line m n e = ap (λ (r : Report). refusal_line r.number) e

-- The memory that the program lends Read.
pub record Sized (form : List ℕ) (lent : Lent) : Type 0 where
  pub words : length form ≡ form_room
  pub path : length lent.path ≡ 255
  pub word : length lent.word ≡ 255
  pub work : length lent.work ≡ 16384

sized_rooms : (form : List ℕ) (before : Lent) → Sized form before → rooms before ≡ lent_rooms
sized_rooms form before h = cc (h.path, h.word, h.work)

-- What is to be printed by Read's report: the line of a refusal, or the lines of a path.
pub data Said (Printed : List ℕ → Type 0) (A : List ℕ) (M : Matrix) (before after : Lent) (answer : Report) : Type 0 where
  away : (n : Refusal) → answer ≡ turned_away n → Printed (refusal_line (number_of n)) → Said Printed A M before after answer
  best :
      (b : List ℕ) (k : ℕ) → length b ≡ M.count → answer ≡ read (price M b) (length (collapse b)) k → after.path ≡ written b before.path
      → after.word ≡ written (characters A (collapse b)) before.word → Printed (reading_lines (price M b) (characters A (collapse b)) b)
      → Said Printed A M before after answer

module _ (A s : List ℕ) (M : Matrix) (before after : Lent) (answer : Report) where
  said_outcome :
      (k need : ℕ) → Answers (WordsOf A s) (characters A) k M need before after answer → Said (PrintsOutcome A s M) A M before after answer
  said_outcome k need a = by a.outcome a.is a.answered a.path a.word
    where
      by :
          (o : Option (List ℕ)) → Outcome (WordsOf A s) M o → answer ≡ outcome_report k M o → after.path ≡ written (path_of o) before.path
          → after.word ≡ written (word_of (characters A) o) before.word → Said (PrintsOutcome A s M) A M before after answer
      by none h e u v = away NoReading e (record { outcome = none; is = h; lines = refl })
      by (some b) h e u v = best b k h.qualifies.path.one_each e u v (record { outcome = some b; is = h; lines = refl })

  said_checked :
      (c : Result (Unit {0}) Refusal) (k need : ℕ) → Checks turned_away c (Answers (WordsOf A s) (characters A) k M need) before after answer
      → Said (PrintsChecked c A s M) A M before after answer
  said_checked (Err n) k need h = away n h.0 refl
  said_checked (Ok _) k need h = said_outcome k need h

  said_compiled : rooms before ≡ lent_rooms → (v : Verdict (List ℕ)) → ReadsBy v A s M before after answer → Said (PrintsCompiled v A s M) A M before after answer
  said_compiled e (refused n) h = away n h.0 refl
  said_compiled e (passed f) h =
      let need = needed M.count (letters_of f) in
      said_checked (first_refusal (matrix_checks (length A) (letters_of f) M lent_rooms)) (length f) need
      (subst
      (λ r. Checks turned_away (first_refusal (matrix_checks (length A) (letters_of f) M r)) (Answers (WordsOf A s) (characters A) (length f) M need) before after answer) e h)

  pub said : (form form' : List ℕ) → Sized form before → Reads A s M form form' before after answer → Said (PrintsReading A s M) A M before after answer
  said form form' sized h =
      said_compiled (sized_rooms form before sized) (compile_call A s form_room) (rw sized.words at h.reads)

module _ (Printed : List ℕ → Type 0) (A : List ℕ) (M : Matrix) (before after : Lent) where
  said_away : (n : Refusal) → Said Printed A M before after (turned_away n) → Printed (refusal_line (number_of n))
  said_away n (away m e h) = rw (same_line n m e) h
  said_away n (best b k c e u v h) = absurd (never_both n (price M b) (length (collapse b)) k (sym e))

  -- path and word are within their memory, and their lines are to be printed
  record Readable (p n : ℕ) : Type 0 where
    pub path_fits : M.count ≤ length after.path
    pub word_fits : n ≤ length after.word
    pub prints : Printed (reading_lines p (take n after.word) (take M.count after.path))

  said_best : (p n l : ℕ) → Said Printed A M before after (read p n l) → Readable p n
  said_best p n l (away m e h) = absurd (never_both m p n l e)
  said_best p n l (best b k c e u v h) =
      let size : length (characters A (collapse b)) ≡ length (collapse b) = length-map (collapse b) (character A) in
      let count : n ≡ length (collapse b) = ap (λ (r : Report). r.filled) e in
      let same_price : p ≡ price M b = ap (λ (r : Report). r.price) e in
      let same_word : take n after.word ≡ characters A (collapse b) = ap (take n) v ∙ take_written (characters A (collapse b)) before.word n (count ∙ sym size) in
      let same_path : take M.count after.path ≡ b = ap (take M.count) u ∙ take_written b before.path M.count (sym c) in
      record {
        path_fits = omega (arith, ap length u, written_fits b before.path);
        word_fits = omega (arith, ap length v, written_fits (characters A (collapse b)) before.word);
        prints = rw (same_price, same_word, same_path) h;
      }

  -- Read's answer can be printed, and its lines are those that are to be printed
  pub said_shown : (r : Result Reading Refusal) → Said Printed A M before after (reported r) → Shown r M.count after.path after.word
  said_shown (Ok r) s = let b = said_best r.price r.length r.form s in (b.word_fits, b.path_fits)
  said_shown (Err n) s = tt

  pub said_lines : (r : Result Reading Refusal) → Said Printed A M before after (reported r) → Printed (answer_lines r M.count after.path after.word)
  said_lines (Ok r) s = (said_best r.price r.length r.form s).prints
  said_lines (Err n) s = said_away n s
