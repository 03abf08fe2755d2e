-- The set of words over characters (document 02, T-07): "the set of words is over characters, and a list of labels counts as a word when the
-- characters of its labels spell one". Of the alphabet it takes which characters are listed; `same_words` (CharactersLaws) says that their
-- labels make no difference. `words_of_spelt` and `all_spelt` there tie it to the words over labels, which proofs use.
use Rattle.std.specs.Prelude.{◌≡◌, List, true, ℕ}
use Rattle.lists.specs.Each.{Each}
use Rattle.lists.specs.Lists.{Among}
use Rattle.alphabet.specs.Labels.{Label, characters}
use Rattle.regex_tree.specs.Tree.{Set, member, Tree, WordsOver}
use Rattle.regex_tree.specs.Grammar.{TextOf}

-- a character of the set that the alphabet lists
abbrev pub HasCharacter : List ℕ → Set → ℕ → Type 0
HasCharacter A c b = Among b A × (member c b ≡ true)

-- the words of a tree, as lists of characters
abbrev pub CharacterWords : List ℕ → Tree → List ℕ → Type 0
CharacterWords A = WordsOver (HasCharacter A)

-- the words of a text, as lists of characters
abbrev pub CharacterWordsOf : List ℕ → List ℕ → List ℕ → Type 0
CharacterWordsOf A s v = (t : Tree) × TextOf A 16 t s × CharacterWords A t v

-- a list of labels of the alphabet whose characters spell a word of the text
abbrev pub SpellsWord : List ℕ → List ℕ → List ℕ → Type 0
SpellsWord A s w = Each (Label A) w × CharacterWordsOf A s (characters A w)
