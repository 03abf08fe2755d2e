-- Document 01's compile lines, and ties of refusals, computed from the definitions.
use Rattle.std.specs.Prelude.{ℕ, ◌≡◌, refl, Bool, true, false, ◌&&◌, length, eqb, ltb}
use Prim.Native.String.{String}
use mathlib.Core.List.{List, [], ◌∷◌, map, flat_map}
use Rattle.lists.specs.Lists.{keep, numbers}
use Rattle.refusal.specs.declared.Refusal.TheVariants.{FormMemory}
use Rattle.refusal.specs.Number.{number_of}
use Rattle.refusal.specs.Verdict.{Verdict, passed, refused, check, unless, if_passed}
use Rattle.automaton.specs.Form.{encode, label_of, letters_of}
use Rattle.text.specs.Bytes.{bytes}
use Rattle.regex_tree.specs.Tree.{between, set, times}
use Rattle.regex_tree.specs.Letters.{labels_of, letter_count}
use Rattle.regex_tree.specs.Classes.{classes, look_up, class_ranges}
use Rattle.regex_tree.specs.Parsing.{then, enclosed}
use Rattle.text.specs.Text.{split}
use Rattle.lists.specs.Cases.{first_of, provided}
use Rattle.regex_tree.specs.Sets.{closed, reserved, items, members, ranges_of, known, inside, bracket, alone, escaped, a_set, labelled_set}
use Rattle.regex_tree.specs.Repetition.{number, from_on, from_to, comma, counts, sign, repetition}
use Rattle.regex_tree.specs.Parse.{grouped, step, go, parse, whole, expression_of}
use Rattle.positions.specs.Opened.{any_of, copies, nested, repeated, opened, labels}
use Rattle.positions.specs.Numbered.{numbered, position_automaton}
use Rattle.positions.specs.Compiled.{form_of}
use Rattle.compile.specs.Call.{compile_call}

-- an alphabet, a text, room for the form, the refusal (0: none) and the length of what is filled
data Case : Type 0 where
  case : String → String → ℕ → ℕ → ℕ → Case

said : Verdict (List ℕ) → ℕ → ℕ → Bool
said (passed f) n l = eqb n 0 && eqb l (length f)
said (refused m) n l = eqb n (number_of m)

meets : Case → Bool
meets (case A s room n l) = said (compile_call (bytes A) (bytes s) room) n l

failing : List Case → List Case
failing [] = []
failing (r ∷ rs) = elim (meets r) [ true ↦ failing rs | false ↦ r ∷ [] ]

cases : List Case
cases =
    -- the lines to try
    case "ab" "ab*" 5 0 5 ∷ case "ab" "ab*" 4 10 0 ∷ case "ab" "a{0}" 99 6 0 ∷ case "ab" "a{2,1}" 99 6 0 ∷ case "ab" "a*?" 3 0 3
    ∷ case "ab" "a**" 99 4 0 ∷ case "ab" "[b-a]" 99 7 0 ∷ case "ab" "c" 99 8 0 ∷ case "ab" "a{128}" 99 9 0
    -- 1 before 2 before 3 before 4; 3 anywhere before 4; 8 further left before 4; 8 before 9 before 10; a character twice is no refusal
    ∷ case "" "" 0 1 0 ∷ case "a\t" "*" 0 1 0 ∷ case "aa" "*" 0 4 0 ∷ case "aa" "a" 3 0 3 ∷ case "ab" "" 0 2 0 ∷ case "ab" "*\t" 0 3 0 ∷ case "ab" "*" 0 4 0 ∷ case "ab" "c*" 0 8 0
    ∷ case "ab" "a{128}c" 0 8 0 ∷ case "ab" "a{128}" 0 9 0 ∷ case "ab" "a" 0 10 0
    -- 19 after 3 and before 9; by its place, and at its place after 7 and before 8
    ∷ case "ab" "[[:lower:]]" 3 0 3 ∷ case "ab" "[[:x:]]" 99 19 0 ∷ case "ab" "[[:x:]]\t" 99 3 0 ∷ case "ab" "a{128}[[:x:]]" 0 19 0 ∷ case "ab" "[[:x:]]c" 99 19 0
    ∷ case "ab" "c[[:x:]]" 99 8 0 ∷ case "ab" "[[:x:]b-a]" 99 7 0 ∷ case "ab" "[[:x:]c]" 99 19 0 ∷ case "ab" "[[:digit:]]" 99 8 0
    -- letters are counted by label, and 9 goes by that; 8 is no label at all
    ∷ case "777" "7" 4 0 4 ∷ case "777" "7{43}" 99 9 0 ∷ case "777" "7{43}8" 99 8 0 ∷ case "77" "[^7]" 99 8 0 ∷ case "77a" "[^7]" 2 0 2
    ∷ []

computed : failing cases ≡ []
unfolding failing meets said cases compile_call if_passed unless keep numbers flat_map encode labels_of letter_count then first_of split enclosed provided closed reserved items members ranges_of class_ranges look_up classes known inside bracket escaped a_set labelled_set number from_on from_to comma counts sign repetition grouped step go parse whole expression_of any_of copies nested repeated opened labels numbered position_automaton
computed = refl

-- A character, a range, `.`, a class, a bracket and its complement mean all labels of their characters, in label order.
labels_of_character : Verdict (List ℕ) → List ℕ
labels_of_character (passed f) = map (label_of f) (numbers 1 (letters_of f))
labels_of_character (refused n) = []

abbrev meant : String → String → List ℕ
meant A s = labels_of_character (compile_call (bytes A) (bytes s) 9)

all_labels :
    (map (meant "7a7") ("7" ∷ "[5-8]" ∷ "." ∷ "[[:digit:]]" ∷ "[a7]" ∷ "[^a]" ∷ "[^7]" ∷ "[^[:digit:]]" ∷ [])
    ≡ (1 ∷ 3 ∷ []) ∷ (1 ∷ 3 ∷ []) ∷ (1 ∷ 2 ∷ 3 ∷ []) ∷ (1 ∷ 3 ∷ []) ∷ (1 ∷ 2 ∷ 3 ∷ []) ∷ (1 ∷ 3 ∷ []) ∷ (2 ∷ []) ∷ (2 ∷ []) ∷ [])
    × (meant "+a++" "\\+" ≡ 1 ∷ 3 ∷ 4 ∷ [])
unfolding labels_of_character compile_call if_passed unless keep numbers flat_map encode labels_of letter_count then first_of split enclosed provided closed reserved items members ranges_of class_ranges look_up classes known inside bracket escaped a_set labelled_set number from_on from_to comma counts sign repetition grouped step go parse whole expression_of any_of copies nested repeated opened labels numbered position_automaton
all_labels = (refl, refl)

-- "`a{127}` compiles, `a{128}` is 9": for 127 letters only refusal 10 is possible. A character with three labels has 126 letters if it is
-- repeated 42 times. These forms are not computed.
abbrev memory_only : String → String → ℕ → List ℕ → Type 0
memory_only A s room f = compile_call (bytes A) (bytes s) room ≡ unless (check (ltb room (length f)) FormMemory ∷ []) f

most_letters :
    (room : ℕ)
    → memory_only "ab" "a{127}" room (form_of (bytes "ab") (times (set (alone 97)) (between 127 127)))
    × memory_only "777" "7{42}" room (form_of (bytes "777") (times (set (alone 55)) (between 42 42)))
unfolding compile_call if_passed unless labels_of letter_count then first_of split enclosed provided a_set labelled_set number from_to counts sign repetition step go parse whole expression_of
most_letters room = (refl, refl)
