-- The compiled form, a list of 32-bit words (document 01, "Opening and the compiled form"): its words by their fields, which lists are
-- valid forms, the automaton that a form stands for, and the form of an automaton.
use Rattle.std.specs.Prelude.{ℕ, zero, suc, ◌+◌, ◌*◌, ◌/◌, ◌%◌, ◌^◌, Bool, true, cond, ◌&&◌, ◌||◌, leb, ltb, eqb, length, get_or, take, drop}
use mathlib.Core.List.{List, [], ◌∷◌, ◌++◌, map, flat_map}
use Rattle.lists.specs.Lists.{in_range, any, keep, numbers}
use Rattle.lists.specs.Each.{all}
use Rattle.automaton.specs.Automaton.{Automaton}

abbrev pub bit : Bool → ℕ
bit b = cond b 1 0

-- The three kinds of word, each the sum of its fields; bits of no field are 0. The kind is in bits 28 to 31.
-- head: L in bits 0 to 7, bit 8 set if the empty word is accepted, K in bits 16 to 23
abbrev pub head_word : ℕ → Bool → ℕ → ℕ
head_word l empty k = 1 * 2 ^ 28 + k * 2 ^ 16 + bit empty * 2 ^ 8 + l

-- letter: label in bits 0 to 7, bit 8 set if it may be first, bit 9 if it may be last
abbrev pub letter_word : ℕ → Bool → Bool → ℕ
letter_word label first last = 2 * 2 ^ 28 + bit last * 2 ^ 9 + bit first * 2 ^ 8 + label

-- arc: target in bits 0 to 7, source in bits 8 to 15
abbrev pub arc_word : ℕ → ℕ → ℕ
arc_word source target = 3 * 2 ^ 28 + source * 2 ^ 8 + target

-- the fields of a word
abbrev pub byte0 : ℕ → ℕ
byte0 w = w % 256

abbrev pub byte1 : ℕ → ℕ
byte1 w = w / 256 % 256

abbrev pub byte2 : ℕ → ℕ
byte2 w = w / 65536 % 256

abbrev pub bit8 : ℕ → Bool
bit8 w = eqb (w / 256 % 2) 1

abbrev pub bit9 : ℕ → Bool
bit9 w = eqb (w / 512 % 2) 1

abbrev pub source : ℕ → ℕ
source w = byte1 w

abbrev pub target : ℕ → ℕ
target w = byte0 w

-- L, K, the label of a letter, the words of the letters and the words after them
abbrev pub letters_of : List ℕ → ℕ
letters_of f = byte0 (get_or f 0 0)

abbrev pub alphabet_of : List ℕ → ℕ
alphabet_of f = byte2 (get_or f 0 0)

abbrev pub label_of : List ℕ → ℕ → ℕ
label_of f i = byte0 (get_or f i 0)

abbrev pub letter_words : List ℕ → List ℕ
letter_words f = take (letters_of f) (drop 1 f)

abbrev pub arc_words : List ℕ → List ℕ
arc_words f = drop (suc (letters_of f)) f

-- Which lists are forms: each word is the word of its own fields, and the fields are in range.
abbrev pub is_head : ℕ → Bool
is_head w = eqb w (head_word (byte0 w) (bit8 w) (byte2 w)) && in_range 1 127 (byte0 w) && in_range 1 95 (byte2 w)

-- a letter over an alphabet of k characters
abbrev pub is_letter : ℕ → ℕ → Bool
is_letter k w = eqb w (letter_word (byte0 w) (bit8 w) (bit9 w)) && in_range 1 k (byte0 w)

-- an arc between two of l letters
abbrev pub is_arc : ℕ → ℕ → Bool
is_arc l w = eqb w (arc_word (source w) (target w)) && in_range 1 l (source w) && in_range 1 l (target w)

-- in the order of source, then target
abbrev pub before : ℕ → ℕ → Bool
before w v = ltb (source w) (source v) || (eqb (source w) (source v) && ltb (target w) (target v))

unfoldable pub ordered : List ℕ → Bool
ordered [] = true
ordered (w ∷ []) = true
ordered (w ∷ (v ∷ ws)) = before w v && ordered (v ∷ ws)

-- a missing head counts as 0, which is no head; all words after the letters are arcs
unfoldable pub valid_form : List ℕ → Bool
valid_form f =
    is_head (get_or f 0 0)
    && ltb (letters_of f) (length f)
    && all (is_letter (alphabet_of f)) (letter_words f)
    && all (is_arc (letters_of f)) (arc_words f)
    && ordered (arc_words f)

-- The automaton that a form stands for.
abbrev pub leads : ℕ → ℕ → ℕ → Bool
leads i j w = eqb (source w) i && eqb (target w) j

-- the letters that may be first follow 0, the targets of a letter's arcs follow the letter
unfoldable pub follow_of : List ℕ → ℕ → ℕ → Bool
follow_of f zero j = in_range 1 (letters_of f) j && bit8 (get_or f j 0)
follow_of f (suc i) j = any (leads (suc i) j) (arc_words f)

-- a word may end after 0 if the empty word is accepted, and after a letter that may be last
unfoldable pub ends_of : List ℕ → ℕ → Bool
ends_of f zero = bit8 (get_or f 0 0)
ends_of f (suc i) = leb (suc i) (letters_of f) && bit9 (get_or f (suc i) 0)

abbrev pub view : List ℕ → Automaton
view f = record { letters = letters_of f; label = label_of f; follow = follow_of f; ends = ends_of f }

-- The form of an automaton over an alphabet of k characters.
abbrev pub letter_of : Automaton → ℕ → ℕ
letter_of A i = letter_word (A.label i) (A.follow 0 i) (A.ends i)

-- the arcs of a letter, in the order of target
abbrev pub arcs_from : Automaton → ℕ → List ℕ
arcs_from A i = map (arc_word i) (keep (A.follow i) (numbers 1 A.letters))

-- the head, the letters in the order of number, the arcs in the order of source, then target
unfoldable pub encode : ℕ → Automaton → List ℕ
encode k A =
    head_word A.letters (A.ends 0) k
    ∷ (map (letter_of A) (numbers 1 A.letters) ++ flat_map (arcs_from A) (numbers 1 A.letters))
