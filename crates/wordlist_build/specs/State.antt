-- The arrays while a list is read: which letters they hold once some lines are closed and a part of the next one has been read, and what one
-- byte more makes of that.
use Rattle.std.specs.Prelude.{ℕ, ◌≤◌, ◌<◌, ◌≡◌, false, length}
use mathlib.Core.List.{List, [], ◌∷◌, ◌++◌, map, flat_map}
use Rattle.lists.specs.Lists.{any, same_list}
use Rattle.text_lines.proofs.LinesLoops.{Read}
use Rattle.wordlist.specs.Words.{words, list_fault, foreign}
use Rattle.wordlist.specs.PrefixTree.{Prefix, whole, prefixes, Letter}
use Rattle.wordlist.proofs.LettersLaws.{letters_by}
use Rattle.wordlist_build.specs.declared.Trie.{Trie}
use Rattle.wordlist_build.specs.Arrays.{Roomy}
use Rattle.wordlist_build.specs.Heads.{head_of, Present, Rooted}
use Rattle.wordlist_build.specs.Rows.{Row, Holds}

-- the prefixes of the lines ws, and of what has been read of the next one
abbrev pub prefixes_read : (ws : List (List ℕ)) (u : List ℕ) → List Prefix
prefixes_read ws u = flat_map prefixes ws ++ prefixes u

-- and their letters
abbrev pub letters_read : (A : List ℕ) (ws : List (List ℕ)) (u : List ℕ) → List Letter
letters_read A ws u = letters_by A (prefixes_read ws u)

-- what the arrays say of a letter
abbrev pub row_of : List Letter → List (List ℕ) → Letter → Row
row_of ls ws z = record {
  label = z.label;
  character = z.prefix.character;
  parent = head_of ls z.prefix.before;
  head = head_of ls (whole z.prefix);
  last = any (same_list (whole z.prefix)) ws;
}

-- the arrays hold the letters ls; the lines ws are closed, and u has been read of the next one
pub record Shows (ls : List Letter) (ws : List (List ℕ)) (u : List ℕ) (t : Trie) : Type 0 where
  pub holds : Holds t (map (row_of ls ws) ls)
  pub place : t.at ≡ head_of ls u
  pub rooted : Rooted ls
  pub here : Present ls u

-- the arrays hold the letters so far, or these are more than 127
pub record State (A : List ℕ) (ws : List (List ℕ)) (u : List ℕ) (t : Trie) : Type 0 where
  pub within : t.letters ≤ 127 → Shows (letters_read A ws u) ws u t
  pub over : 127 < t.letters → 127 < length (letters_read A ws u)

-- Whatever was read before: one character more, the end of the line, one byte more.

abbrev pub ReadsCharacter : (A : List ℕ) (c : ℕ) (t r : Trie) → Type 0
ReadsCharacter A c t r = (ws : List (List ℕ)) (u : List ℕ) → State A ws u t → State A ws (u ++ (c ∷ [])) r

abbrev pub EndsLine : (t r : Trie) → Type 0
EndsLine t r = (A : List ℕ) (ws : List (List ℕ)) (u : List ℕ) → State A ws u t → State A (ws ++ (u ∷ [])) [] r

pub record ReadsByte (A : List ℕ) (b : ℕ) (t r : Trie) : Type 0 where
  pub character : (b ≡ 10 → ⊥) → ReadsCharacter A b t r
  pub newline : b ≡ 10 → EndsLine t r

-- a list that refusals 21 and 8 do not turn away
pub record Readable (A s : List ℕ) : Type 0 where
  pub no_fault : list_fault s ≡ false
  pub no_foreign : foreign A (words s) ≡ false

-- the bytes before place i have been read
pub record Reached (A s : List ℕ) (i : ℕ) (t : Trie) : Type 0 where
  pub inside : i ≤ length s
  pub roomy : Roomy t
  pub lines : List (List ℕ)
  pub begun : List ℕ
  pub read : Read s i lines begun
  pub state : State A lines begun t

-- the arrays hold the letters of the list's words, or these are more than 127
pub record Builds (A s : List ℕ) (t : Trie) : Type 0 where
  pub roomy : Roomy t
  pub state : State A (words s) [] t
