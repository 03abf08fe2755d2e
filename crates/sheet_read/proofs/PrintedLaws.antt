-- What is printed is the line of a refusal, or the lines of a path. No path uses a barred label, so a printed price is a sum of usable costs:
-- there is no cost of a barred label to print.
use Rattle.std.specs.Prelude.{ℕ, ◌≤◌, ◌≡◌, refl, ◌⊎◌, List, length, Result, Ok, Err}
use Rattle.std.proofs.Math.Option.{Option, some, none}
use Rattle.std.proofs.Common.{inl, inr, arith}
use Rattle.refusal.specs.declared.Refusal.{Refusal}
use Rattle.refusal.specs.declared.Refusal.TheVariants.{NoReading}
use Rattle.refusal.specs.Number.{number_of}
use Rattle.refusal.specs.Verdict.{Verdict, passed, refused, first_refusal}
use Rattle.ctc.specs.Collapse.{collapse}
use Rattle.automaton.specs.Form.{letters_of}
use Rattle.automaton.proofs.ValidLaws.{valid_parts}
use Rattle.matrix.specs.Matrix.{Matrix, price}
use Rattle.matrix.specs.Barred.{Unbarred}
use Rattle.matrix.specs.Paths.{PathOf}
use Rattle.matrix.proofs.PathsLaws.{path_unbarred, path_price}
use Rattle.outcome.specs.Outcome.{Outcome}
use Rattle.regex_tree.specs.Grammar.{WordsOf}
use Rattle.compile.specs.Call.{compile_call}
use Rattle.compile.proofs.Meaning.{compiled_means}
use Rattle.decode_checks.specs.Checks.{matrix_checks}
use Rattle.decode_checks.proofs.PassingLaws.{fits}
use Rattle.alphabet.specs.Labels.{characters}
use Rattle.sheet_lines.specs.Lines.{reading_lines, refusal_line}
use Rattle.sheet_read.specs.Answer.{form_room, lent_rooms, outcome_lines, PrintsOutcome, PrintsChecked, PrintsCompiled, PrintsReading}

-- the line of some refusal
pub record PrintsRefusal (output : List ℕ) : Type 0 where
  pub refusal : Refusal
  pub line : output ≡ refusal_line (number_of refusal)

-- the lines of a path of at most 255 labels, each 0 to 95
pub record PrintsPath (A : List ℕ) (M : Matrix) (output : List ℕ) : Type 0 where
  pub few : M.count ≤ 255
  pub narrow : M.width ≤ 96
  pub path : List ℕ
  pub is : PathOf M path
  pub lines : output ≡ reading_lines (price M path) (characters A (collapse path)) path

module _ (A s : List ℕ) (M : Matrix) (output : List ℕ) where
  abbrev Printed : Type 0
  Printed = PrintsRefusal output ⊎ PrintsPath A M output

  outcome_printed : M.count ≤ 255 → M.width ≤ 96 → PrintsOutcome A s M output → Printed
  outcome_printed c w h = by h.outcome h.is h.lines
    where
      by : (o : Option (List ℕ)) → Outcome (WordsOf A s) M o → output ≡ outcome_lines A M o → Printed
      by none g e = inl (record { refusal = NoReading; line = e })
      by (some p) g e = inr (record { few = c; narrow = w; path = p; is = g.qualifies.path; lines = e })

  checked_printed : (k : Result (Unit {0}) Refusal) → (k ≡ Ok tt → (M.count ≤ 255) × (M.width ≤ 96)) → PrintsChecked k A s M output → Printed
  checked_printed (Err n) f h = inl (record { refusal = n; line = h })
  checked_printed (Ok _) f h = outcome_printed (f refl).0 (f refl).1 h

  compiled_printed : (v : Verdict (List ℕ)) → compile_call A s form_room ≡ v → PrintsCompiled v A s M output → Printed
  compiled_printed (refused n) e h = inl (record { refusal = n; line = h })
  compiled_printed (passed f) e h =
      let m = compiled_means A s form_room f e in
      let high = (valid_parts f m.valid).head.alphabet_high in
      let same = m.alphabet in
      checked_printed (first_refusal (matrix_checks (length A) (letters_of f) M lent_rooms))
      (λ q. let g = fits (length A) (letters_of f) M lent_rooms q in let few = g.few in let wide = g.wide in (omega arith, omega arith)) h

  pub reading_printed : PrintsReading A s M output → PrintsRefusal output ⊎ PrintsPath A M output
  reading_printed h = compiled_printed (compile_call A s form_room) refl h

-- what is printed of a path: its price, at most 255 costs of 1,000,000, and labels that are not barred
module _ {A : List ℕ} {M : Matrix} {output : List ℕ} (h : PrintsPath A M output) where
  pub printed_price : price M h.path ≤ 255000000
  printed_price = let few = h.few in let one = h.is.one_each in let most = path_price M 0 h.path h.is.labels in omega arith

  pub printed_unbarred : Unbarred M h.path
  printed_unbarred = path_unbarred M 0 h.path h.is.labels
