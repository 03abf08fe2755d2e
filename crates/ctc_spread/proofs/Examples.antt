-- The call Spread at its limits, and the order of its checks, computed.
use Rattle.std.specs.Prelude.{ℕ, ◌≡◌, refl, List, [], ◌∷◌}
use Rattle.refusal.specs.declared.Refusal.TheVariants.{OutputMemory, Label}
use Rattle.refusal.specs.Verdict.{passed, refused, unless}
use Rattle.ctc.specs.Spread.{spread}
use Rattle.ctc_spread.specs.Calls.{spread_call}

-- two equal neighbours
abbrev word : List ℕ
word = 1 ∷ 1 ∷ 2 ∷ []

record Examples : Type 0 where
  -- memory as long as the path, one more, and one less
  enough : spread_call 2 word 4 ≡ passed (1 ∷ 0 ∷ 1 ∷ 2 ∷ [])
  more : spread_call 2 word 5 ≡ passed (1 ∷ 0 ∷ 1 ∷ 2 ∷ [])
  short : spread_call 2 word 3 ≡ refused OutputMemory
  nothing : spread_call 1 [] 0 ≡ passed []
  over_k : spread_call 1 word 4 ≡ refused Label
  blank : spread_call 2 (1 ∷ 0 ∷ []) 2 ≡ refused Label
  -- refusal 14 before 17
  both : spread_call 1 word 3 ≡ refused OutputMemory

examples : Examples
unfolding spread_call unless spread
examples = record { enough = refl; more = refl; short = refl; nothing = refl; over_k = refl; blank = refl; both = refl }
