-- Collapse and spread on small lists.
use Rattle.std.specs.Prelude.{◌≡◌, refl, [], ◌∷◌, List, ℕ, ◌≤◌, length}
use Rattle.ctc.specs.Collapse.{merge, without_blanks, collapse}
use Rattle.ctc.specs.Spread.{spread, Shortest}

-- merged first: deleting the blanks first would lose a letter
example_repeat : collapse (1 ∷ 0 ∷ 1 ∷ 1 ∷ []) ≡ 1 ∷ 1 ∷ []
unfolding collapse merge without_blanks
example_repeat = refl

example_runs : collapse (0 ∷ 2 ∷ 2 ∷ 0 ∷ 0 ∷ 2 ∷ 1 ∷ 1 ∷ 0 ∷ []) ≡ 2 ∷ 2 ∷ 1 ∷ []
unfolding collapse merge without_blanks
example_runs = refl

example : spread (1 ∷ 1 ∷ 2 ∷ 2 ∷ 2 ∷ 1 ∷ []) ≡ 1 ∷ 0 ∷ 1 ∷ 2 ∷ 0 ∷ 2 ∷ 0 ∷ 2 ∷ 1 ∷ []
unfolding spread
example = refl

-- every shortest path of the word 1 1 collapses to it and has at most three labels
example_shortest : (p : List ℕ) → Shortest (1 ∷ 1 ∷ []) p → (collapse p ≡ 1 ∷ 1 ∷ []) × (length p ≤ 3)
unfolding collapse merge without_blanks
example_shortest p h = (h.collapses, h.shortest (1 ∷ 0 ∷ 1 ∷ []) refl)
