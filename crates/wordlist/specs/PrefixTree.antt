-- The prefix tree of a list of words as an automaton (document 02, T-05 and T-07; the vocabulary automaton of source document 000): "shared
-- beginnings use the same letters", "letters are numbered as they first occur in the list", "a character takes one letter for each of its
-- labels, ascending, and what follows it is shared by them". A beginning is called a prefix here.
use Rattle.std.specs.Prelude.{ℕ, zero, suc, ◌-◌, Bool, not, ◌&&◌, length, get_or, eqb}
use mathlib.Core.List.{List, [], ◌∷◌, ◌++◌, map, flat_map}
use Rattle.lists.specs.Lists.{any, keep, same_list, in_range}
use Rattle.alphabet.specs.Labels.{labels_of_character}
use Rattle.automaton.specs.Automaton.{Automaton}
use Rattle.automaton.specs.Form.{encode}

-- a nonempty prefix of a word: its last character, and what is before it
pub record Prefix : Type 0 where
  pub before : List ℕ
  pub character : ℕ

abbrev pub whole : Prefix → List ℕ
whole p = p.before ++ (p.character ∷ [])

abbrev pub same_prefix : Prefix → Prefix → Bool
same_prefix p q = same_list p.before q.before && eqb p.character q.character

-- the prefixes of a word of which u has been read and w is left, the shortest first
unfoldable pub prefixes_from : (u w : List ℕ) → List Prefix
prefixes_from u [] = []
prefixes_from u (c ∷ w) = record { before = u; character = c } ∷ prefixes_from (u ++ (c ∷ [])) w

abbrev pub prefixes : List ℕ → List Prefix
prefixes w = prefixes_from [] w

-- each where it first occurs, and nowhere else
unfoldable pub once : List Prefix → List Prefix
once [] = []
once (p ∷ ps) = p ∷ keep (λ q. not (same_prefix p q)) (once ps)

-- the prefixes of the words
abbrev pub prefixes_of : List (List ℕ) → List Prefix
prefixes_of ws = once (flat_map prefixes ws)

-- a letter: the prefix that ends with it, and its label
pub record Letter : Type 0 where
  pub prefix : Prefix
  pub label : ℕ

abbrev pub letter_with : Prefix → ℕ → Letter
letter_with p x = record { prefix = p; label = x }

-- a letter for each label of a prefix's last character
abbrev pub letters_for : List ℕ → Prefix → List Letter
letters_for A p = map (letter_with p) (labels_of_character A p.character)

-- the letters, by number
unfoldable pub letters_in : List ℕ → List (List ℕ) → List Letter
letters_in A ws = flat_map (letters_for A) (prefixes_of ws)

-- what a letter past the last one counts as
abbrev pub no_letter : Letter
no_letter = record { prefix = record { before = []; character = 0 }; label = 0 }

abbrev pub letter_at : List Letter → ℕ → Letter
letter_at ls j = get_or ls (j - 1) no_letter

-- what has been read at letter i: nothing at 0, which is no letter yet
unfoldable pub prefix_read_at : List Letter → ℕ → List ℕ
prefix_read_at ls zero = []
prefix_read_at ls (suc i) = whole (letter_at ls (suc i)).prefix

-- A letter follows where its prefix goes on from what has been read; a word may end where what has been read is listed.
unfoldable pub prefix_tree : List ℕ → List (List ℕ) → Automaton
prefix_tree A ws =
    let ls = letters_in A ws in
    record {
      letters = length ls;
      label = λ j. (letter_at ls j).label;
      follow = λ i j. in_range 1 (length ls) j && same_list (prefix_read_at ls i) (letter_at ls j).prefix.before;
      ends = λ i. any (same_list (prefix_read_at ls i)) ws;
    }

-- the form of the words
abbrev pub list_form : List ℕ → List (List ℕ) → List ℕ
list_form A ws = encode (length A) (prefix_tree A ws)
