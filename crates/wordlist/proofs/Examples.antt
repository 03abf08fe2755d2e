-- Words of lists, prefixes and letters, computed.
use Rattle.std.specs.Prelude.{ℕ, ◌≡◌, refl, true, false, replicate}
use mathlib.Core.List.{List, [], ◌∷◌, map, flat_map}
use Rattle.lists.specs.Lists.{any, keep, numbers}
use Rattle.automaton.specs.Automaton.{Automaton}
use Rattle.text.specs.Bytes.{bytes}
use Rattle.text_lines.specs.Lines.{onto, pieces, both, closed}
use Rattle.wordlist.specs.Words.{list_byte, words, repeated, list_fault, foreign}
use Rattle.wordlist.specs.PrefixTree.{whole, prefixes_from, prefixes, once, prefixes_of, Letter, letters_in, prefix_read_at, prefix_tree}

-- over `7a7`: 7a, and 7, which begins it; letters 1 and 2 are those of 7, letter 3 is that of 7a
sevens : Automaton
sevens = prefix_tree (bytes "7a7") (bytes "7a" ∷ bytes "7" ∷ [])

-- a letter by its prefix and its label
shown : Letter → List ℕ
shown z = z.label ∷ whole z.prefix

record Examples : Type 0 where
  lines : words (bytes "ab\na\n") ≡ bytes "ab" ∷ bytes "a" ∷ []
  -- no lines without a final newline
  unclosed : words (bytes "ab\na") ≡ []
  passing_bytes : keep list_byte (numbers 0 256) ≡ 10 ∷ numbers 32 95
  -- no final newline, an empty line first, between and last, a line again at once and later, also one that is not the first
  faults :
      map (λ s. list_fault (bytes s)) ("a" ∷ "\na\n" ∷ "a\n\nb\n" ∷ "a\n\n" ∷ "\n" ∷ "a\na\n" ∷ "a\nb\na\n" ∷ "b\na\na\n" ∷ "c\na\nb\na\n" ∷ [])
      ≡ replicate 9 true
  -- a word that begins another, another case, a space
  no_faults : map (λ s. list_fault (bytes s)) ("a\nab\n" ∷ "ab\na\n" ∷ "a\nA\n" ∷ " \n" ∷ " \n  \n" ∷ []) ≡ replicate 5 false
  -- over `aba`: c has no label, wherever it is
  strangers :
      map (λ s. foreign (bytes "aba") (words (bytes s))) ("ab\nb\n" ∷ "c\n" ∷ "ac\n" ∷ "ca\n" ∷ "a\nbc\n" ∷ []) ≡ false ∷ true ∷ true ∷ true ∷ true ∷ []
  -- the prefixes of a word, the shortest first
  of_a_word : map whole (prefixes (bytes "aba")) ≡ bytes "a" ∷ bytes "ab" ∷ bytes "aba" ∷ []
  -- of four words, each where it first occurs
  of_words : map whole (prefixes_of (bytes "ba" ∷ bytes "bb" ∷ bytes "a" ∷ bytes "bab" ∷ [])) ≡ bytes "b" ∷ bytes "ba" ∷ bytes "bb" ∷ bytes "a" ∷ bytes "bab" ∷ []
  -- over `7a7`: the labels of 7 are 1 and 3
  letters :
      map shown (letters_in (bytes "7a7") (bytes "a7" ∷ bytes "aa" ∷ []))
      ≡ (2 ∷ bytes "a") ∷ (1 ∷ bytes "a7") ∷ (3 ∷ bytes "a7") ∷ (2 ∷ bytes "aa") ∷ []
  -- after no letter, and after letters 1 to 3: which letters follow, and whether a word may end
  labels : map sevens.label (1 ∷ 2 ∷ 3 ∷ []) ≡ 1 ∷ 3 ∷ 2 ∷ []
  followers : map (λ i. keep (sevens.follow i) (numbers 0 5)) (0 ∷ 1 ∷ 2 ∷ 3 ∷ []) ≡ (1 ∷ 2 ∷ []) ∷ (3 ∷ []) ∷ (3 ∷ []) ∷ [] ∷ []
  ends : map sevens.ends (0 ∷ 1 ∷ 2 ∷ 3 ∷ []) ≡ false ∷ true ∷ true ∷ true ∷ []

examples : Examples
unfolding shown sevens prefix_tree prefix_read_at onto pieces both closed repeated list_fault foreign keep numbers flat_map prefixes_from once letters_in
examples = record {
  lines = refl;
  unclosed = refl;
  passing_bytes = refl;
  faults = refl;
  no_faults = refl;
  strangers = refl;
  of_a_word = refl;
  of_words = refl;
  letters = refl;
  labels = refl;
  followers = refl;
  ends = refl;
}
