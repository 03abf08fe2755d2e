-- What the call Collapse gives for its input: a list of labels, or the refusal that applies (document 01, "What is turned away", refusals
-- 14 and 17).
use Rattle.std.specs.Prelude.{ℕ, List, [], ◌∷◌, length, ltb}
use Rattle.refusal.specs.declared.Refusal.TheVariants.{OutputMemory, Label}
use Rattle.refusal.specs.Verdict.{Verdict, check, unless}
use Rattle.ctc.specs.Collapse.{collapse}
use Rattle.ctc_labels.specs.Calls.{label_fault}

-- what Collapse writes, with this much room for the word
unfoldable pub collapse_call : ℕ → List ℕ → ℕ → Verdict (List ℕ)
collapse_call k path room = unless (check (ltb room (length path)) OutputMemory ∷ (check (label_fault k 0 path) Label ∷ [])) (collapse path)
