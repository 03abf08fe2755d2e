-- Which words an automaton accepts, as a test that computes: a search over its letters.
use Rattle.std.specs.Prelude.{ℕ, Bool, ◌&&◌, List, [], ◌∷◌, eqb}
use Rattle.lists.specs.Lists.{any, numbers}
use Rattle.automaton.specs.Automaton.{Automaton}

-- some walk after letter i spells the word
unfoldable pub spells : Automaton → ℕ → List ℕ → Bool
spells A i [] = A.ends i
spells A i (x ∷ w) = any (λ j. A.follow i j && eqb (A.label j) x && spells A j w) (numbers 1 A.letters)

abbrev pub accepts : Automaton → List ℕ → Bool
accepts A w = spells A 0 w
