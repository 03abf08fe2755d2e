-- The call Collapse at its limits, and the order of its checks, computed.
use Rattle.std.specs.Prelude.{ℕ, ◌≡◌, refl, List, [], ◌∷◌}
use Rattle.refusal.specs.declared.Refusal.TheVariants.{OutputMemory, Label}
use Rattle.refusal.specs.Verdict.{passed, refused, unless}
use Rattle.ctc.specs.Collapse.{merge, without_blanks, collapse}
use Rattle.ctc_collapse.specs.Calls.{collapse_call}

-- it collapses to a word of two labels
abbrev path : List ℕ
path = 1 ∷ 0 ∷ 1 ∷ 1 ∷ []

record Examples : Type 0 where
  -- memory as long as the path, one more, and one less
  enough : collapse_call 1 path 4 ≡ passed (1 ∷ 1 ∷ [])
  more : collapse_call 1 path 5 ≡ passed (1 ∷ 1 ∷ [])
  short : collapse_call 1 path 3 ≡ refused OutputMemory
  nothing : collapse_call 1 [] 0 ≡ passed []
  over_k : collapse_call 1 (2 ∷ []) 1 ≡ refused Label
  no_alphabet : collapse_call 96 path 4 ≡ refused Label
  -- refusal 14 before 17
  both : collapse_call 96 path 3 ≡ refused OutputMemory

examples : Examples
unfolding collapse_call unless collapse merge without_blanks
examples = record { enough = refl; more = refl; short = refl; nothing = refl; over_k = refl; no_alphabet = refl; both = refl }
