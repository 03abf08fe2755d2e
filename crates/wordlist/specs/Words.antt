-- A word list as a text (document 02, T-05): its words, and which lists are turned away.
use Rattle.std.specs.Prelude.{ℕ, Bool, false, not, ◌&&◌, ◌||◌, List, [], ◌∷◌, length, eqb}
use Rattle.lists.specs.Lists.{any, same_list, in_range}
use Rattle.lists.specs.Options.{is_some, listed}
use Rattle.text_lines.specs.Lines.{lines_of}
use Rattle.alphabet.specs.Labels.{labels_of_character}

-- "Refusal 3 spares the newline": a newline, or 32 to 126
abbrev pub list_byte : ℕ → Bool
list_byte b = eqb b 10 || in_range 32 126 b

-- the words of a list are its lines; there are none where the last line is not closed by a newline
abbrev pub words : List ℕ → List (List ℕ)
words s = listed (lines_of s)

-- a word comes again
unfoldable pub repeated : List (List ℕ) → Bool
repeated [] = false
repeated (w ∷ ws) = any (same_list w) ws || repeated ws

-- refusal 21: "an empty or repeated line or no final newline"
unfoldable pub list_fault : List ℕ → Bool
list_fault s = not (is_some (lines_of s)) || (any (same_list []) (words s) || repeated (words s))

-- the character has no label in the alphabet
abbrev pub unlabelled : List ℕ → ℕ → Bool
unlabelled A c = eqb (length (labels_of_character A c)) 0

-- refusal 8: a word has such a character
unfoldable pub foreign : List ℕ → List (List ℕ) → Bool
foreign A ws = any (any (unlabelled A)) ws

-- a byte that is no newline and has no label
abbrev pub strange : List ℕ → ℕ → Bool
strange A b = not (eqb b 10) && unlabelled A b
