-- What CompileList gives for an alphabet and a list: the form of its words, or the refusal that applies (document 02, T-05: "21, an empty or
-- repeated line or no final newline, after 3 and before 8").
use Rattle.std.specs.Prelude.{ℕ, not, List, [], ◌∷◌, length, ltb}
use Rattle.lists.specs.Lists.{in_range}
use Rattle.lists.specs.Each.{all}
use Rattle.refusal.specs.declared.Refusal.TheVariants.{Alphabet, TextLength, TextByte, WordList, Foreign, Letters, FormMemory}
use Rattle.refusal.specs.Verdict.{Verdict, Check, check, unless, if_passed}
use Rattle.alphabet.specs.Alphabet.{is_alphabet}
use Rattle.wordlist.specs.Words.{list_byte, words, list_fault, foreign}
use Rattle.wordlist.specs.PrefixTree.{letters_in, list_form}

-- refusals 1, 2, 3, 21 and 8, in this order: "1 to 4,096 bytes in all and otherwise 2"
abbrev pub list_checks : (A s : List ℕ) → List Check
list_checks A s =
    check (not (is_alphabet A)) Alphabet
    ∷ (check (not (in_range 1 4096 (length s))) TextLength
    ∷ (check (not (all list_byte s)) TextByte
    ∷ (check (list_fault s) WordList
    ∷ (check (foreign A (words s)) Foreign ∷ []))))

-- the form of the words, in this much memory, or refusals 9 and 10
abbrev pub formed : (A : List ℕ) (room : ℕ) (ws : List (List ℕ)) → Verdict (List ℕ)
formed A room ws =
    unless (check (ltb 127 (length (letters_in A ws))) Letters ∷ (check (ltb room (length (list_form A ws))) FormMemory ∷ [])) (list_form A ws)

-- what CompileList fills, with this much room for the form
unfoldable pub compile_list_call : (A s : List ℕ) (room : ℕ) → Verdict (List ℕ)
compile_list_call A s room = if_passed (unless (list_checks A s) (words s)) (formed A room)
