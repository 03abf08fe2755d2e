-- The memory that a call needs. For the reader: nothing uses it.
use Rattle.std.specs.Prelude.{◌≡◌, refl, [], ◌∷◌}
use Rattle.refusal.specs.declared.Refusal.TheVariants.{OutputMemory}
use Rattle.refusal.specs.Verdict.{passed, refused, unless}
use Rattle.confidence_rule.specs.Cost.{largest, shift, cost_of}
use Rattle.confidence.specs.Cost.{costs_call}

-- memory for exactly the costs, and for one more
enough : (costs_call (128 ∷ 1 ∷ []) 2 ≡ passed (8 ∷ 64 ∷ [])) × (costs_call (128 ∷ 1 ∷ []) 3 ≡ passed (8 ∷ 64 ∷ []))
unfolding costs_call unless cost_of shift largest
enough = (refl, refl)

-- memory for one cost less; no memory for no confidences
short : (costs_call (128 ∷ 1 ∷ []) 1 ≡ refused OutputMemory) × (costs_call [] 0 ≡ passed [])
unfolding costs_call unless
short = (refl, refl)
