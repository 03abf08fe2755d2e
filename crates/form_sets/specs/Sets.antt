-- Sets of letters, with 0 for 'no letter yet': what it means that a set was advanced by one label, and that a word may end in it.
use Rattle.std.specs.Prelude.{ℕ, ◌≡◌, Bool, true, false, List, ◌∷◌, length, get_or, set, replicate}
use Rattle.lists.specs.Marks.{Has}
use Rattle.automaton.specs.Automaton.{Automaton}
use Rattle.automaton.specs.Form.{label_of, view, target}

-- letter j has label x and may follow i
abbrev pub Enters : Automaton → ℕ → ℕ → ℕ → Type 0
Enters A x i j = (A.follow i j ≡ true) × (A.label j ≡ x)

-- the letters with label x that may follow one of the set
pub record Advanced (A : Automaton) (x : ℕ) (set next : List Bool) : Type 0 where
  pub size : length next ≡ 128
  pub reached : (i j : ℕ) → Has set i → Enters A x i j → Has next j
  pub only : (j : ℕ) → Has next j → (i : ℕ) × Has set i × Enters A x i j

-- a word may end after one of the set
abbrev pub EndsIn : Automaton → List Bool → Type 0
EndsIn A set = (i : ℕ) × Has set i × (A.ends i ≡ true)

-- no letter yet
abbrev pub no_letter : List Bool
no_letter = true ∷ replicate 127 false

-- what is marked if it has label x: letter j, letter j if it may be first, the target of the arc at n
abbrev pub Labelled : List ℕ → ℕ → ℕ → ℕ → Type 0
Labelled f x j k = (k ≡ j) × (label_of f k ≡ x)

abbrev pub Begun : List ℕ → ℕ → ℕ → ℕ → Type 0
Begun f x j k = (k ≡ j) × Enters (view f) x 0 k

abbrev pub Reached : List ℕ → ℕ → ℕ → ℕ → Type 0
Reached f x n k = Labelled f x (target (get_or f n 0)) k
