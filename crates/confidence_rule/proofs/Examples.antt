-- Costs of single confidences. For the reader: nothing uses it.
use Rattle.std.specs.Prelude.{◌≡◌, refl, [], ◌∷◌, map}
use Rattle.confidence_rule.specs.Cost.{largest, shift, cost_of}

-- Document 01's examples, and document 02's cost of confidence 0.
examples : map cost_of (255 ∷ 182 ∷ 181 ∷ 128 ∷ 1 ∷ 0 ∷ []) ≡ 0 ∷ 3 ∷ 4 ∷ 8 ∷ 64 ∷ 4294967295 ∷ []
unfolding cost_of shift largest
examples = refl
