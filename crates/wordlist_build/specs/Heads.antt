-- The head of a prefix: the number of its first letter. What has been read of a line is known by it.
use Rattle.std.specs.Prelude.{ℕ, ◌≡◌, Bool, ◌&&◌, List, [], length, eqb}
use Rattle.lists.specs.Lists.{Among, same_list, lowest}
use Rattle.wordlist.specs.PrefixTree.{Letter, letter_at, prefix_read_at}

-- the first letter at which v has been read; 0 if there is none, and for the empty list
unfoldable pub head_of : List Letter → List ℕ → ℕ
head_of ls v = lowest (λ j. same_list (prefix_read_at ls j) v) (length ls)

-- v is empty, or has been read at some letter
abbrev pub Present : List Letter → List ℕ → Type 0
Present ls v = head_of ls v ≡ 0 → v ≡ []

-- what is before the last character of each letter's prefix is present too
abbrev pub Rooted : List Letter → Type 0
Rooted ls = (z : Letter) → Among z ls → Present ls z.prefix.before

-- letter j goes on from v with the character c, by heads
abbrev pub goes_on : List Letter → List ℕ → ℕ → ℕ → Bool
goes_on ls v c j = eqb (head_of ls (letter_at ls j).prefix.before) (head_of ls v) && eqb (letter_at ls j).prefix.character c
