-- The words of a form's letters, by the arrays that give its automaton.
use Rattle.std.specs.Prelude.{ℕ, ◌-◌, Bool, List, map, get_or}
use Rattle.lists.specs.Lists.{numbers}
use Rattle.automaton.specs.Form.{letter_word}
use Rattle.automaton.specs.Arrays.{has}

-- the word of letter j
abbrev pub letter_by : List ℕ → List Bool → List Bool → ℕ → ℕ
letter_by labels first last j = letter_word (get_or labels (j - 1) 0) (has first j) (has last j)

-- the words of the letters
unfoldable pub letters_by : ℕ → List ℕ → List Bool → List Bool → List ℕ
letters_by l labels first last = map (letter_by labels first last) (numbers 1 l)
