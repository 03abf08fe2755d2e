-- For one alphabet, text and matrix there is one output.
use Rattle.std.specs.Prelude.{ℕ, ◌≡◌, List, length, Result, Ok, Err}
use Rattle.refusal.specs.declared.Refusal.{Refusal}
use Rattle.std.proofs.Common.{sym, ap, ◌∙◌}
use Rattle.refusal.specs.Verdict.{Verdict, passed, refused, first_refusal}
use Rattle.automaton.specs.Form.{letters_of}
use Rattle.matrix.specs.Matrix.{Matrix}
use Rattle.outcome.proofs.OutcomeLaws.{outcome_unique}
use Rattle.regex_tree.specs.Grammar.{WordsOf}
use Rattle.decode_checks.specs.Checks.{matrix_checks}
use Rattle.sheet_read.specs.Answer.{lent_rooms, outcome_lines, PrintsOutcome, PrintsChecked, PrintsCompiled}

module _ (A s : List ℕ) (M : Matrix) (a b : List ℕ) where
  outcome_same : PrintsOutcome A s M a → PrintsOutcome A s M b → a ≡ b
  outcome_same h g =
      h.lines ∙ ap (outcome_lines A M) (outcome_unique M (WordsOf A s) h.outcome g.outcome h.is g.is) ∙ sym g.lines

  checked_same : (c : Result (Unit {0}) Refusal) → PrintsChecked c A s M a → PrintsChecked c A s M b → a ≡ b
  checked_same (Err n) h g = h ∙ sym g
  checked_same (Ok _) h g = outcome_same h g

  pub compiled_same : (v : Verdict (List ℕ)) → PrintsCompiled v A s M a → PrintsCompiled v A s M b → a ≡ b
  compiled_same (refused n) h g = h ∙ sym g
  compiled_same (passed f) h g = checked_same (first_refusal (matrix_checks (length A) (letters_of f) M lent_rooms)) h g
