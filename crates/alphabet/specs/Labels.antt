-- The labels of an alphabet and their characters (document 01, "Alphabet, labels, paths"): label x is the x-th character of the list. A
-- character that is listed more than once has several labels (document 02, T-07).
use Rattle.std.specs.Prelude.{ℕ, ◌-◌, ◌≤◌, List, map, length, get_or, eqb}
use Rattle.lists.specs.Lists.{keep, numbers}

-- a label of the alphabet
abbrev pub Label : (A : List ℕ) (x : ℕ) → Type 0
Label A x = (1 ≤ x) × (x ≤ length A)

-- the character of a label
abbrev pub character : (A : List ℕ) (x : ℕ) → ℕ
character A x = get_or A (x - 1) 0

-- the characters of a word's labels
abbrev pub characters : (A w : List ℕ) → List ℕ
characters A w = map (character A) w

-- the labels of a character, ascending
abbrev pub labels_of_character : (A : List ℕ) (c : ℕ) → List ℕ
labels_of_character A c = keep (λ x. eqb (character A x) c) (numbers 1 (length A))
