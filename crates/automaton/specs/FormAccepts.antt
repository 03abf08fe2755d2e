-- The walks of a form, by its words (document 01, "Opening and the compiled form"): "A form accepts the empty word if bit 8 of its head
-- says so, and a nonempty word if some walk from a first letter along arcs to a last letter spells it."
use Rattle.std.specs.Prelude.{ℕ, ◌≤◌, ◌≡◌, true, List, [], ◌∷◌, map, get_or}
use Rattle.lists.specs.Lists.{Among}
use Rattle.lists.specs.Each.{Each}
use Rattle.automaton.specs.Form.{arc_word, bit8, bit9, letters_of, label_of, arc_words}

-- letter i is one of the form's
abbrev pub OfForm : List ℕ → ℕ → Type 0
OfForm f i = (1 ≤ i) × (i ≤ letters_of f)

-- each letter is the target of an arc from the one before it: the arc's word is among those after the letters
abbrev pub Along : List ℕ → ℕ → List ℕ → Type 0
Along f i [] = Unit {0}
Along f i (j ∷ js) = Among (arc_word i j) (arc_words f) × Along f j js

-- the last of letter i and the letters after it
abbrev pub last_of : ℕ → List ℕ → ℕ
last_of i [] = i
last_of i (j ∷ js) = last_of j js

-- A walk that spells the word: the letter where it starts, and the letters after it.
pub record WalkSpells (f word : List ℕ) : Type 0 where
  pub start : ℕ
  pub more : List ℕ
  pub letters : Each (OfForm f) (start ∷ more)
  pub first : bit8 (get_or f start 0) ≡ true
  pub arcs : Along f start more
  pub last : bit9 (get_or f (last_of start more) 0) ≡ true
  pub spells : map (label_of f) (start ∷ more) ≡ word
