-- An expression as a tree, and its set of words (document 01, "Expression text"): over labels here, over characters in Characters.
use Rattle.std.specs.Prelude.{◌≡◌, ◌⊎◌, List, [], ◌∷◌, ◌++◌, Bool, true, false, not, ◌&&◌, ◌||◌, ℕ, zero, suc, ◌≤◌, leb}
use Rattle.alphabet.specs.Labels.{Label, character}

-- bytes from the first to the last, by value
pub data Range : Type 0 where
  range : ℕ → ℕ → Range

-- the bytes of some ranges, or all others: an ordinary character, `.` and a bracket alike
pub data Set : Type 0 where
  only : List Range → Set
  except : List Range → Set

-- how many words a repetition joins: n to m, or n or more
pub data Count : Type 0 where
  between : ℕ → ℕ → Count
  onward : ℕ → Count

pub data Tree : Type 0 where
  set : Set → Tree
  group : Tree → Tree
  times : Tree → Count → Tree
  join : Tree → Tree → Tree
  either : Tree → Tree → Tree

abbrev pub within : Range → ℕ → Bool
within (range c d) b = leb c b && leb b d

abbrev pub among : List Range → ℕ → Bool
among [] b = false
among (r ∷ rs) b = within r b || among rs b

-- whether a byte belongs to a set
abbrev pub member : Set → ℕ → Bool
member (only rs) b = among rs b
member (except rs) b = not (among rs b)

abbrev pub Allows : Count → ℕ → Type 0
Allows (between n m) k = (n ≤ k) × (k ≤ m)
Allows (onward n) k = n ≤ k

-- k words of a set joined
abbrev pub Joined : (List ℕ → Type 0) → ℕ → List ℕ → Type 0
Joined Word zero w = w ≡ []
Joined Word (suc k) w = (u : List ℕ) × (v : List ℕ) × (w ≡ u ++ v) × Word u × Joined Word k v

-- The words of a tree, where `Has c x` says that x is a one-letter word of the set c.
abbrev pub WordsOver : (Set → ℕ → Type 0) → Tree → List ℕ → Type 0
WordsOver Has (set c) w = (x : ℕ) × Has c x × (w ≡ x ∷ [])
WordsOver Has (group r) w = WordsOver Has r w
WordsOver Has (times r c) w = (k : ℕ) × Allows c k × Joined (WordsOver Has r) k w
WordsOver Has (join r s) w = (u : List ℕ) × (v : List ℕ) × (w ≡ u ++ v) × WordsOver Has r u × WordsOver Has s v
WordsOver Has (either r s) w = WordsOver Has r w ⊎ WordsOver Has s w

-- a label of the set: one whose character belongs to it
abbrev pub HasLabel : List ℕ → Set → ℕ → Type 0
HasLabel A c x = Label A x × (member c (character A x) ≡ true)

-- The words over the labels of the alphabet A.
abbrev pub Words : List ℕ → Tree → List ℕ → Type 0
Words A = WordsOver (HasLabel A)
