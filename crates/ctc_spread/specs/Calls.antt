-- What the call Spread gives for its input: a list of labels, or the refusal that applies (document 01, "What is turned away", refusals
-- 14 and 17).
use Rattle.std.specs.Prelude.{ℕ, List, [], ◌∷◌, length, ltb}
use Rattle.refusal.specs.declared.Refusal.TheVariants.{OutputMemory, Label}
use Rattle.refusal.specs.Verdict.{Verdict, check, unless}
use Rattle.ctc.specs.Spread.{spread}
use Rattle.ctc_labels.specs.Calls.{label_fault}

-- what Spread writes, with this much room for the path
unfoldable pub spread_call : ℕ → List ℕ → ℕ → Verdict (List ℕ)
spread_call k word room = unless (check (ltb room (length (spread word))) OutputMemory ∷ (check (label_fault k 1 word) Label ∷ [])) (spread word)
