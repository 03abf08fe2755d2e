-- When a list of labels is a listed word (document 02, T-07): "a list of labels counts as a word when the characters of its labels spell one".
use Rattle.std.specs.Prelude.{ℕ, List}
use Rattle.lists.specs.Each.{Each}
use Rattle.lists.specs.Lists.{Among}
use Rattle.alphabet.specs.Labels.{Label, characters}

-- each is a label of the alphabet, and their characters are one of the words
abbrev pub Listed : List ℕ → List (List ℕ) → List ℕ → Type 0
Listed A ws w = Each (Label A) w × Among (characters A w) ws
