-- An automaton by its parts, its walks, and the words that it accepts (document 01, "Opening and the compiled form").
-- Letters are numbered from 1; 0 stands for 'no letter yet'.
use Rattle.std.specs.Prelude.{ℕ, ◌≡◌, Bool, true, List, [], ◌∷◌, map}

-- the number of letters; the label of a letter; whether a letter may follow another, or follow 0 if it may be first; whether a word may end
-- after a letter, or after 0 if the empty word is accepted
pub record Automaton : Type 0 where
  pub letters : ℕ
  pub label : ℕ → ℕ
  pub follow : ℕ → ℕ → Bool
  pub ends : ℕ → Bool

-- after letter i these letters, one after another, are a walk to where a word may end
abbrev pub Walk : Automaton → ℕ → List ℕ → Type 0
Walk A i [] = A.ends i ≡ true
Walk A i (j ∷ js) = (A.follow i j ≡ true) × Walk A j js

-- what a list of letters spells
abbrev pub spelt : Automaton → List ℕ → List ℕ
spelt A js = map A.label js

-- a walk after letter i that spells the word
abbrev pub Spells : Automaton → ℕ → List ℕ → Type 0
Spells A i w = (js : List ℕ) × Walk A i js × (spelt A js ≡ w)

abbrev pub Accepts : Automaton → List ℕ → Type 0
Accepts A w = Spells A 0 w
