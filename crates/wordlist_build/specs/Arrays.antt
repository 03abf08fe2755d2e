-- The arrays of a prefix tree: room for 127 letters, a letter more, a letter for each label, the letters that lead on.
use Rattle.std.specs.Prelude.{ℕ, ◌+◌, ◌-◌, ◌<◌, ◌≡◌, Bool, false, ◌&&◌, ◌||◌, List, [], ◌∷◌, length, get_or, set, eqb}
use Rattle.lists.specs.Lists.{keeping}
use Rattle.alphabet.specs.Labels.{character}
use Rattle.wordlist_build.specs.declared.Trie.{Trie}

-- each array has 127 entries
pub record Roomy (t : Trie) : Type 0 where
  pub labels : length t.labels ≡ 127
  pub characters : length t.characters ≡ 127
  pub parents : length t.parents ≡ 127
  pub heads : length t.heads ≡ 127
  pub last : length t.last ≡ 127

-- letter j goes on from what has been read, with the character c
abbrev pub leads_on : Trie → ℕ → ℕ → Bool
leads_on t c j = eqb (get_or t.parents (j - 1) 0) t.at && eqb (get_or t.characters (j - 1) 0) c

-- a letter more, after what has been read: label x of the character c
abbrev pub pushed : Trie → (c head x : ℕ) → Trie
pushed t c head x = record {
  letters = t.letters + 1;
  at = t.at;
  labels = set t.labels t.letters x;
  characters = set t.characters t.letters c;
  parents = set t.parents t.letters t.at;
  heads = set t.heads t.letters head;
  last = set t.last t.letters false;
}

-- a letter for each label
unfoldable pub pushes : Trie → (c head : ℕ) → List ℕ → Trie
pushes t c head [] = t
pushes t c head (x ∷ xs) = pushes (pushed t c head x) c head xs

-- x, if it is a label of the character c
abbrev pub if_label : List ℕ → (c x : ℕ) → List ℕ
if_label A c x = keeping (eqb (character A x) c) x []

-- another head of what has been read
abbrev pub moved : Trie → ℕ → Trie
moved t j = record {
  letters = t.letters;
  at = j;
  labels = t.labels;
  characters = t.characters;
  parents = t.parents;
  heads = t.heads;
  last = t.last;
}

-- the marks of letters with which a word ends, with those of the letters of this head
pub record MarksEnds (letters : ℕ) (heads : List ℕ) (last : List Bool) (head : ℕ) (r : List Bool) : Type 0 where
  pub size : length r ≡ 127
  pub at : (i : ℕ) → i < letters → get_or r i false ≡ (get_or last i false || eqb (get_or heads i 0) head)
