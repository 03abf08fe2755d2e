-- Memory as document 01 has it: at least as many words as confidences are enough, and fewer are refusal 14.
use Rattle.std.specs.Prelude.{ℕ, ◌≤◌, ◌<◌, ◌≡◌, length, ltb}
use Rattle.std.proofs.Common.{◌∙◌, lt-ltb, le-ltb}
use mathlib.Core.List.{List, [], map}
use Rattle.refusal.specs.declared.Refusal.TheVariants.{OutputMemory}
use Rattle.refusal.specs.Verdict.{passed, refused}
use Rattle.refusal.proofs.VerdictLaws.{unless_none, unless_holds, unless_fails}
use Rattle.confidence_rule.specs.Cost.{cost_of}
use Rattle.confidence.specs.Cost.{costs_call}

module _ (confidences : List ℕ) (room : ℕ) where
  pub costs_passed : length confidences ≤ room → costs_call confidences room ≡ passed (map cost_of confidences)
  unfolding costs_call
  costs_passed h =
      unless_fails (map cost_of confidences) (ltb room (length confidences)) OutputMemory [] (le-ltb room (length confidences) h)
      ∙ unless_none (map cost_of confidences)

  pub costs_refused : room < length confidences → costs_call confidences room ≡ refused OutputMemory
  unfolding costs_call
  costs_refused h = unless_holds (map cost_of confidences) (ltb room (length confidences)) OutputMemory [] (lt-ltb room (length confidences) h)
