-- CompileList's refusals at their limits and in their order, and forms of lists, computed from the definitions.
use Rattle.std.specs.Prelude.{ℕ, ◌≡◌, refl, Bool, true, false, ◌&&◌, length, replicate, eqb}
use Prim.Native.String.{String}
use mathlib.Core.List.{List, [], ◌∷◌, map, flat_map}
use Rattle.lists.specs.Lists.{keep, numbers}
use Rattle.refusal.specs.Number.{number_of}
use Rattle.refusal.specs.Verdict.{Verdict, passed, refused, unless, if_passed}
use Rattle.automaton.specs.Form.{encode}
use Rattle.text.specs.Bytes.{bytes}
use Rattle.text_lines.specs.Lines.{onto, pieces, both, closed}
use Rattle.wordlist.specs.Words.{repeated, list_fault, foreign}
use Rattle.wordlist.specs.PrefixTree.{prefixes_from, once, letters_in, prefix_read_at, prefix_tree}
use Rattle.compile_list.specs.Call.{compile_list_call}

-- an alphabet, a list, room for the form, the refusal (0: none) and the length of what is filled
data Case : Type 0 where
  case : String → String → ℕ → ℕ → ℕ → Case

said : Verdict (List ℕ) → ℕ → ℕ → Bool
said (passed f) n l = eqb n 0 && eqb l (length f)
said (refused m) n l = eqb n (number_of m)

meets : Case → Bool
meets (case A s room n l) = said (compile_list_call (bytes A) (bytes s) room) n l

failing : List Case → List Case
failing [] = []
failing (r ∷ rs) = elim (meets r) [ true ↦ failing rs | false ↦ r ∷ [] ]

cases : List Case
cases =
    -- one word; a word that begins another, in both orders; two words with one beginning; a space and a `-` are characters
    case "ab" "a\n" 2 0 2 ∷ case "ab" "ab\na\n" 4 0 4 ∷ case "ab" "a\nab\n" 4 0 4 ∷ case "ab" "ab\naa\n" 6 0 6 ∷ case "a -" "- a\n" 6 0 6
    -- 1 before 2 before 3 before 21 before 8, each with all later ones; 3 anywhere
    ∷ case "" "" 0 1 0 ∷ case "\t" "c\t" 0 1 0 ∷ case "ab" "" 0 2 0 ∷ case "ab" "c\t" 0 3 0 ∷ case "ab" "a\na\n\nc\t" 0 3 0
    ∷ case "ab" "c" 0 21 0 ∷ case "ab" "\n" 0 21 0 ∷ case "ab" "c\n\n" 0 21 0 ∷ case "ab" "\nc\n" 0 21 0 ∷ case "ab" "c\na\nc\n" 0 21 0 ∷ case "ab" "a\na\n" 9 21 0
    ∷ case "ab" "a\nb" 9 21 0 ∷ case "ab" "ab\nb\na\nab\n" 9 21 0 ∷ case "ab" "a\n\nb\n" 9 21 0
    ∷ case "ab" "c\n" 0 8 0 ∷ case "ab" "a\nbc\n" 9 8 0 ∷ case "777" "7777777777777777777777777777777777777777777a\n" 0 8 0
    -- 9 before 10: letters are counted by label; 127 pass, 128 do not
    ∷ case "777" "7777777777777777777777777777777777777777777\n" 0 9 0 ∷ case "777bb" "777777777777777777777777777777777777777777b\n" 0 9 0
    ∷ case "777b" "777777777777777777777777777777777777777777b\n" 0 10 0
    ∷ case "ab" "a\n" 1 10 0 ∷ case "ab" "ab\naa\n" 5 10 0
    ∷ []

computed : failing cases ≡ []
unfolding failing meets said cases compile_list_call if_passed unless keep numbers flat_map encode onto pieces both closed repeated list_fault foreign prefixes_from once letters_in prefix_read_at prefix_tree
computed = refl

-- the number that is given for a list of bytes over the alphabet `ab`
number : List ℕ → ℕ
number s = given (compile_list_call (bytes "ab") s 9)
  where
    given : Verdict (List ℕ) → ℕ
    given (passed f) = 0
    given (refused n) = number_of n

-- 4,096 bytes are no refusal 2, one more is, whatever they are; 2 before 3
lengths :
    map (λ b. map (λ n. number (replicate n b)) (0 ∷ 1 ∷ 4096 ∷ 4097 ∷ [])) (97 ∷ 10 ∷ 9 ∷ [])
    ≡ (2 ∷ 21 ∷ 21 ∷ 2 ∷ []) ∷ (2 ∷ 21 ∷ 21 ∷ 2 ∷ []) ∷ (2 ∷ 3 ∷ 3 ∷ 2 ∷ []) ∷ []
unfolding number compile_list_call if_passed unless onto pieces both closed repeated list_fault
lengths = refl

-- which bytes are no refusal 3
list_bytes : map (λ b. number (97 ∷ b ∷ [])) (0 ∷ 9 ∷ 10 ∷ 11 ∷ 13 ∷ 31 ∷ 32 ∷ 97 ∷ 126 ∷ 127 ∷ 128 ∷ 255 ∷ []) ≡ 3 ∷ 3 ∷ 0 ∷ 3 ∷ 3 ∷ 3 ∷ 21 ∷ 21 ∷ 21 ∷ 3 ∷ 3 ∷ 3 ∷ []
unfolding number compile_list_call if_passed unless keep numbers flat_map encode onto pieces both closed repeated list_fault foreign prefixes_from once letters_in prefix_read_at prefix_tree
list_bytes = refl

form : String → String → Verdict (List ℕ)
form A s = compile_list_call (bytes A) (bytes s) 99

record Forms : Type 0 where
  -- a and ab share a letter, which may be last; letters 3 and 4 are those of b and ba
  shared : form "ab" "ab\na\nba\n" ≡ passed (0x10020004 ∷ 0x20000301 ∷ 0x20000202 ∷ 0x20000102 ∷ 0x20000201 ∷ 0x30000102 ∷ 0x30000304 ∷ [])
  -- numbered as they first occur: b, ba, a, ab, bb
  in_order :
      form "ab" "ba\nab\nbb\n"
      ≡ passed (0x10020005 ∷ 0x20000102 ∷ 0x20000201 ∷ 0x20000101 ∷ 0x20000202 ∷ 0x20000202 ∷ 0x30000102 ∷ 0x30000105 ∷ 0x30000304 ∷ [])
  -- an `a` has the labels 1 and 3: letters 1 and 2, with the same b after both
  two_shapes :
      form "aba" "ab\nb\n" ≡ passed (0x10030004 ∷ 0x20000101 ∷ 0x20000103 ∷ 0x20000202 ∷ 0x20000302 ∷ 0x30000103 ∷ 0x30000203 ∷ [])
  -- both letters of the second 7 may be last and follow the a
  two_sevens :
      form "7a7" "7a7\n"
      ≡ passed
      (0x10030005 ∷ 0x20000101 ∷ 0x20000103 ∷ 0x20000002 ∷ 0x20000201 ∷ 0x20000203 ∷ 0x30000103 ∷ 0x30000203 ∷ 0x30000304 ∷ 0x30000305 ∷ [])
  -- two levels and a collar: L, L1, L2, C, C1
  levels :
      form "12LC" "L1\nL2\nC1\n"
      ≡ passed (0x10040005 ∷ 0x20000103 ∷ 0x20000201 ∷ 0x20000202 ∷ 0x20000104 ∷ 0x20000201 ∷ 0x30000102 ∷ 0x30000103 ∷ 0x30000405 ∷ [])

forms : Forms
unfolding form compile_list_call if_passed unless keep numbers flat_map encode onto pieces both closed repeated list_fault foreign prefixes_from once letters_in prefix_read_at prefix_tree
forms = record { shared = refl; in_order = refl; two_shapes = refl; two_sevens = refl; levels = refl }
