-- The call Costs.
use Rattle.std.specs.Prelude.{ℕ, List, [], ◌∷◌, map, length, ltb}
use Rattle.refusal.specs.declared.Refusal.TheVariants.{OutputMemory}
use Rattle.refusal.specs.Verdict.{Verdict, check, unless}
use Rattle.confidence_rule.specs.Cost.{cost_of}

-- what the call writes for a list of confidences, with this much room for the costs
unfoldable pub costs_call : List ℕ → ℕ → Verdict (List ℕ)
costs_call confidences room = unless (check (ltb room (length confidences)) OutputMemory ∷ []) (map cost_of confidences)
