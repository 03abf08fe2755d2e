-- Texts parsed by computation: the expression lines of document 01, what its rules on brackets and braces are taken to mean, a case for
-- each refusal and for each tie of places.
use Rattle.std.specs.Prelude.{◌≡◌, refl, Bool, true, false, ◌&&◌, ℕ, zero, suc, ◌-◌, length, eqb}
use Rattle.std.proofs.Common.{ap}
use Rattle.std.proofs.Math.Option.{none}
use mathlib.Core.List.{List, [], ◌∷◌, ◌++◌, flat_map}
use Prim.Native.Char.{code}
use Prim.Native.String.{String}
use Rattle.refusal.specs.declared.Refusal.{Refusal}
use Rattle.refusal.specs.declared.Refusal.TheVariants.{MisplacedSign, Depth, Bracket, Foreign, ClassName}
use Rattle.refusal.specs.declared.Refusal.TheVariants as refusal
use Rattle.refusal.specs.Number.{number_of}
use Rattle.text.specs.Bytes.{bytes}
use Rattle.regex_tree.specs.Tree.{range, between, onward, only, except, Tree, set, group, times, join, either}
use Rattle.regex_tree.specs.Letters.{labels_of, letter_count}
use Rattle.regex_tree.specs.Classes.{classes, look_up, class_ranges}
use Rattle.regex_tree.specs.Parsing.{Parsing, found, fault, then, enclosed}
use Rattle.text.specs.Text.{split}
use Rattle.lists.specs.Cases.{first_of, provided}
use Rattle.lists.proofs.CasesLaws.{provided_none}
use Rattle.regex_tree.specs.Sets.{Sign, byte, class, classed, with, begins, closed, reserved, items, members, ranges_of, known, inside, bracket, alone, escaped, a_set, labelled_set}
use Rattle.regex_tree.specs.Repetition.{number, from_on, from_to, comma, counts, sign, repetition}
use Rattle.regex_tree.specs.Parse.{grouped, step, go, parse, whole, expression_of}

-- A text that is an expression, with the number of its letters; one that is refused, with the refusal and the fault's place.
data Case : Type 0 where
  letters_of : String → ℕ → Case
  refused_as : String → Refusal → ℕ → Case

meets : List ℕ → Case → Bool
unfolding expression_of
meets A (letters_of t k) = of (expression_of A (bytes t))
  where
    of : Parsing Tree → Bool
    of (found r s) = eqb k (letter_count A r)
    of (fault n s) = false
meets A (refused_as t n k) = of (expression_of A (bytes t))
  where
    of : Parsing Tree → Bool
    of (found r s) = false
    of (fault m s) = eqb (number_of n) (number_of m) && eqb k (length (bytes t) - length s)

-- the first case that is not as it says
failing : List ℕ → List Case → List Case
failing A [] = []
failing A (r ∷ rs) = elim (meets A r) [ true ↦ failing A rs | false ↦ r ∷ [] ]

-- over `ab`
text_cases : List Case
text_cases =
    -- "Lines to try"
    letters_of "ab" 2 ∷ letters_of "aa" 2 ∷ letters_of "a*" 1 ∷ letters_of "a" 1 ∷ letters_of "a|b" 2 ∷ letters_of "a{2}" 2 ∷
    letters_of "(a|b)*" 2 ∷ letters_of "ab*" 2 ∷ letters_of "a{127}" 127 ∷ letters_of "a{128}" 128 ∷ letters_of "a*?" 1 ∷
    refused_as "a{0}" refusal.Count 1 ∷ refused_as "a{2,1}" refusal.Count 1 ∷ refused_as "a**" MisplacedSign 2 ∷ refused_as "[b-a]" Bracket 0 ∷
    refused_as "c" Foreign 0 ∷
    -- 4: nothing to repeat, or a repetition after another
    refused_as "*" MisplacedSign 0 ∷ refused_as "(+a)" MisplacedSign 1 ∷ refused_as "a|?" MisplacedSign 2 ∷ refused_as "{x" MisplacedSign 0 ∷
    refused_as "a*{x" MisplacedSign 2 ∷ refused_as "a+*" MisplacedSign 2 ∷ refused_as "a{1}{2}" MisplacedSign 4 ∷ refused_as "a*?*" MisplacedSign 3 ∷
    letters_of "a??" 1 ∷ refused_as "a???" MisplacedSign 3 ∷ letters_of "a{1,2}?" 2 ∷
    -- 4: empty branch or group, at the sign that ends it or at the text's end
    refused_as "" MisplacedSign 0 ∷ refused_as "a||b" MisplacedSign 2 ∷ refused_as "|a" MisplacedSign 0 ∷ refused_as "a|" MisplacedSign 2 ∷
    refused_as "a()" MisplacedSign 2 ∷ refused_as "(|a)" MisplacedSign 1 ∷ refused_as "(a|)" MisplacedSign 3 ∷ refused_as "(" MisplacedSign 1 ∷
    -- 4: stray or missing `)`, `^` or `$` unescaped, bad `\`
    refused_as ")" MisplacedSign 0 ∷ refused_as "a)" MisplacedSign 1 ∷ refused_as "(a" MisplacedSign 2 ∷ refused_as "((a)" MisplacedSign 4 ∷
    refused_as "^a" MisplacedSign 0 ∷ refused_as "a$" MisplacedSign 1 ∷ refused_as "\\a" MisplacedSign 0 ∷ refused_as "a\\" MisplacedSign 1 ∷
    refused_as "\\]" MisplacedSign 0 ∷ refused_as "\\c" MisplacedSign 0 ∷
    -- 5: at most 16 groups open together
    letters_of "((((((((((((((((a))))))))))))))))" 1 ∷ refused_as "(((((((((((((((((a)))))))))))))))))" Depth 16 ∷
    letters_of "((((((((((((((((a)(b))))))))))))))))" 2 ∷ refused_as "((((((((((((((((a(" Depth 17 ∷
    -- 6
    letters_of "a{001}" 1 ∷ letters_of "a{0,}" 1 ∷ letters_of "a{3,}" 3 ∷ letters_of "a{0,1}" 1 ∷ letters_of "a{9}" 9 ∷ letters_of "a{255}" 255 ∷
    refused_as "a{00}" refusal.Count 1 ∷ refused_as "a{0,0}" refusal.Count 1 ∷ refused_as "a{,2}" refusal.Count 1 ∷ refused_as "a{}" refusal.Count 1 ∷
    refused_as "a{0001}" refusal.Count 1 ∷ refused_as "a{1" refusal.Count 1 ∷ refused_as "a{" refusal.Count 1 ∷ refused_as "a{1,2,3}" refusal.Count 1 ∷
    refused_as "a{ 1}" refusal.Count 1 ∷ refused_as "a{:}" refusal.Count 1 ∷ refused_as "a{1/}" refusal.Count 1 ∷ refused_as "a{256}" refusal.Count 1 ∷
    refused_as "a{1,256}" refusal.Count 1 ∷
    -- 8
    letters_of "[a-c]" 2 ∷ letters_of "[^a]" 1 ∷ letters_of "." 2 ∷ refused_as "[c]" Foreign 0 ∷ refused_as "[^ab]" Foreign 0 ∷
    refused_as "\\." Foreign 0 ∷
    -- the leftmost fault; at one byte the lower number
    refused_as "c)" Foreign 0 ∷ refused_as "a)c" MisplacedSign 1 ∷ refused_as "(c" Foreign 1 ∷ refused_as "[b-a](" Bracket 0 ∷
    refused_as "a{0}c" refusal.Count 1 ∷ refused_as "ca{0}" Foreign 0 ∷ refused_as "((((((((((((((((a)(" MisplacedSign 19 ∷ refused_as "[d-c]" Bracket 0 ∷
    refused_as "c{0}" Foreign 0 ∷ []

-- over `+-.:=A[]\`ab}`
bracket_cases : List Case
bracket_cases =
    letters_of "-" 1 ∷ letters_of "]}" 2 ∷ letters_of "." 13 ∷ letters_of "\\\\" 1 ∷ letters_of "\\." 1 ∷
    -- `-` first or just before the closing `]`, or as a range's end
    letters_of "[--b]" 11 ∷ letters_of "[---]" 1 ∷ letters_of "[+--]" 2 ∷ letters_of "[a-b-]" 3 ∷ letters_of "[ab-]" 3 ∷ letters_of "[a-]" 2 ∷ letters_of "[-]" 1 ∷
    letters_of "[--]" 1 ∷ letters_of "[^-a]" 11 ∷ refused_as "[a--]" Bracket 0 ∷ refused_as "[a-b-c]" Bracket 0 ∷
    refused_as "[a-b-ca]" Bracket 0 ∷ refused_as "[a-b-+ab]" Bracket 0 ∷ refused_as "[+-a-b]" Bracket 0 ∷ letters_of "[+-a-]" 11 ∷
    -- `]` as first item is ordinary
    letters_of "[]]" 1 ∷ letters_of "[^]]" 12 ∷ letters_of "[]-a]" 3 ∷ letters_of "[]-]" 2 ∷ refused_as "[]" Bracket 0 ∷ refused_as "[^]" Bracket 0 ∷
    refused_as "[" Bracket 0 ∷ refused_as "[a" Bracket 0 ∷ refused_as "a[b" Bracket 1 ∷
    -- `[.` `[=` inside
    letters_of "[.]" 1 ∷ letters_of "[=]" 1 ∷ letters_of "[:a:]" 2 ∷ letters_of "[[a]" 2 ∷ letters_of "[\\a]" 2 ∷ refused_as "[A-[.]" Bracket 0 ∷
    refused_as "[[.]" Bracket 0 ∷ refused_as "[a[=]" Bracket 0 ∷ []

-- over `+-.:=A[]\`ab}`: classes that are well formed
class_cases : List Case
class_cases =
    letters_of "[[:alpha:]]" 3 ∷ letters_of "[^[:alpha:]]" 10 ∷ letters_of "[[:upper:]]{3}" 3 ∷ letters_of "a[[:upper:]]b" 3 ∷
    -- beside other items
    letters_of "[-[:alpha:]+]" 5 ∷ letters_of "[[:alpha:][:punct:]]" 13 ∷ letters_of "[ab[:upper:]]" 3 ∷ letters_of "[[:upper:]a-b]" 3 ∷
    letters_of "[a-b[:upper:]-]" 4 ∷ letters_of "[[:alpha:]-]" 4 ∷ letters_of "[-[:alpha:]]" 4 ∷ letters_of "[[[:upper:]]" 2 ∷
    letters_of "[][:alpha:]]" 4 ∷ letters_of "[^][:alpha:]]" 9 ∷
    -- the opening `[` is not inside; a `]` after the bracket is ordinary
    letters_of "[:alpha:]" 2 ∷ letters_of "[:[:upper:]:]" 2 ∷ letters_of "[[:upper:]]]" 2 ∷ letters_of "[[:alpha:]:]]" 5 ∷
    -- a class without a label adds nothing
    letters_of "[[:digit:]a]" 1 ∷ letters_of "[^[:digit:]]" 13 ∷ refused_as "[[:digit:]]" Foreign 0 ∷ refused_as "[[:cntrl:]]" Foreign 0 ∷
    refused_as "[^[:print:]]" Foreign 0 ∷ refused_as "a[[:digit:]c]" Foreign 1 ∷ []

-- 7
class_bracket_cases : List Case
class_bracket_cases =
    -- a class as a range's end, either end
    refused_as "[a-[:alpha:]]" Bracket 0 ∷ refused_as "[A-[:alpha:]b]" Bracket 0 ∷ refused_as "[--[:alpha:]]" Bracket 0 ∷
    refused_as "[[:alpha:]-a]" Bracket 0 ∷ refused_as "[a[:alpha:]-b]" Bracket 0 ∷ refused_as "[[:alpha:]-[:alpha:]]" Bracket 0 ∷
    refused_as "[[:alpha:]--]" Bracket 0 ∷
    -- `[:` without `:]` after it, and unclosed brackets
    refused_as "[[:]" Bracket 0 ∷ refused_as "[[:]]" Bracket 0 ∷ refused_as "[[:" Bracket 0 ∷ refused_as "[^[:a]" Bracket 0 ∷
    refused_as "[[:alpha]" Bracket 0 ∷ refused_as "[[:alpha.]]" Bracket 0 ∷ refused_as "[[:alpha:a]]" Bracket 0 ∷ refused_as "a[b[:alpha]]" Bracket 1 ∷
    refused_as "[[:alpha:" Bracket 0 ∷ refused_as "[[:alpha:]" Bracket 0 ∷
    -- `[.` and `[=` anywhere inside, also within a name
    refused_as "[[:a[.:]]" Bracket 0 ∷ refused_as "[[:[=:]]" Bracket 0 ∷ refused_as "[[:alpha:][.]" Bracket 0 ∷ refused_as "[[:x:][=a]" Bracket 0 ∷
    -- with an unknown name, wherever the fault is in the bracket
    refused_as "[[:x:]b-a]" Bracket 0 ∷ refused_as "[b-a[:x:]]" Bracket 0 ∷ refused_as "[[:x:]-a]" Bracket 0 ∷ refused_as "[a-[:x:]]" Bracket 0 ∷
    refused_as "[[:x:]" Bracket 0 ∷ []

-- 19
class_name_cases : List Case
class_name_cases =
    refused_as "[[:a:]]" ClassName 0 ∷ refused_as "[[::]]" ClassName 0 ∷ refused_as "ab[^[:Alpha:]]" ClassName 2 ∷ refused_as "[[:alpha :]]" ClassName 0 ∷
    refused_as "[[:alph:]]" ClassName 0 ∷ refused_as "[[:alphaa:]]" ClassName 0 ∷ refused_as "[a[:alpha:][:x:]]" ClassName 0 ∷
    -- where no label is there either
    refused_as "[[:x:]c]" ClassName 0 ∷ refused_as "[c[:x:]]" ClassName 0 ∷ refused_as "[[:digit:][:x:]]" ClassName 0 ∷ refused_as "[^[:print:][:x:]]" ClassName 0 ∷
    -- the nearest `:]`, wherever it is; a `]` in a name closes nothing; a colon belongs to one sign
    refused_as "[[:a]b:]]" ClassName 0 ∷ refused_as "[[:x]|[[:alpha:]]" ClassName 0 ∷ refused_as "[[:a[:]]" ClassName 0 ∷
    refused_as "[[:[:alpha:]]" ClassName 0 ∷ refused_as "[[:alpha::]]" ClassName 0 ∷ refused_as "[[:]:]]" ClassName 0 ∷
    -- the leftmost fault
    refused_as "c[[:x:]]" Foreign 0 ∷ refused_as "[[:x:]]c" ClassName 0 ∷ refused_as "[[:x:]]**" ClassName 0 ∷ refused_as "*[[:x:]]" MisplacedSign 0 ∷
    refused_as "[b-a][[:x:]]" Bracket 0 ∷ refused_as "[[:x:]][b-a]" ClassName 0 ∷ refused_as "a{0}[[:x:]]" refusal.Count 1 ∷ []

-- over `^ab`: `^` complements only right after the `[`
complement_cases : List Case
complement_cases =
    letters_of "[a^]" 2 ∷ letters_of "[^^]" 2 ∷ letters_of "[^a^]" 1 ∷ letters_of "\\^" 1 ∷ refused_as "[^^ab]" Foreign 0 ∷ []

-- over `ba`: a range goes by byte value and not by label
label_cases : List Case
label_cases = letters_of "[a-b]" 2 ∷ refused_as "[b-a]" Bracket 0 ∷ []

-- over `7a7`: each label of a character is a letter; 8 is no label at all
repeat_cases : List Case
repeat_cases =
    letters_of "7" 2 ∷ letters_of "." 3 ∷ letters_of "[5-8]" 2 ∷ letters_of "[7a]" 3 ∷ letters_of "[[:digit:]]" 2 ∷ letters_of "[^7]" 1 ∷ letters_of "[^a]" 2 ∷
    letters_of "[^[:digit:]]" 1 ∷ letters_of "77" 4 ∷ letters_of "7{63}" 126 ∷ letters_of "7{64}" 128 ∷ refused_as "[^7a]" Foreign 0 ∷ refused_as "78" Foreign 1 ∷ []

many : ℕ → List ℕ → List ℕ
many zero s = []
many (suc n) s = s ++ many n s

size : List ℕ → Parsing Tree → ℕ
size A (found t r) = letter_count A t
size A (fault n r) = 0

signs : List ℕ
signs = bytes "^.[$()|*+?{\\"

sign_texts : List ℕ
sign_texts = bytes "\\^\\.\\[\\$\\(\\)\\|\\*\\+\\?\\{\\\\"

tried :
    (failing (bytes "ab") text_cases ≡ [])
    × (failing (bytes "+-.:=A[]\\`ab}") bracket_cases ≡ [])
    × (failing (bytes "+-.:=A[]\\`ab}") class_cases ≡ [])
    × (failing (bytes "+-.:=A[]\\`ab}") class_bracket_cases ≡ [])
    × (failing (bytes "+-.:=A[]\\`ab}") class_name_cases ≡ [])
    × (failing (bytes "^ab") complement_cases ≡ [])
    × (failing (bytes "ba") label_cases ≡ [])
    × (failing (bytes "7a7") repeat_cases ≡ [])
    -- each sign, made ordinary
    × (size signs (expression_of signs sign_texts) ≡ 12)
    -- 232 bytes
    × (size (bytes "ab") (expression_of (bytes "ab") (many 11 (bytes "((a|b[a-b]{1,2}?)*)a?") ++ bytes "a")) ≡ 78)
    -- whole trees: how the parts bind, each repetition, sets
    × (expression_of (bytes "abc") (bytes "ab|c{1,3}?")
    ≡ found (either (join (set (alone 97)) (set (alone 98))) (times (set (alone 99)) (between 1 3))) [])
    × (expression_of (bytes "a") (bytes "a*a+a?a{2}a{0,}a{1,2}")
    ≡ found
    (join (times (set (alone 97)) (onward 0)) (join (times (set (alone 97)) (onward 1)) (join (times (set (alone 97)) (between 0 1))
    (join (times (set (alone 97)) (between 2 2)) (join (times (set (alone 97)) (onward 0)) (times (set (alone 97)) (between 1 2))))))) [])
    × (expression_of (bytes "abc-") (bytes ".([^a-b-]*)")
    ≡ found (join (set (except [])) (group (times (set (except (range 97 98 ∷ range 45 45 ∷ []))) (onward 0)))) [])
    -- `alpha` and `:`, and then an ordinary `]`
    × (expression_of (bytes ":A]") (bytes "[[:alpha:]:]]")
    ≡ found (join (set (only (range 65 90 ∷ range 97 122 ∷ range 58 58 ∷ []))) (set (alone 93))) [])
unfolding failing meets text_cases bracket_cases class_cases class_bracket_cases class_name_cases complement_cases label_cases repeat_cases many size signs sign_texts labels_of letter_count then first_of split enclosed provided closed reserved items members ranges_of class_ranges look_up classes known flat_map inside bracket escaped a_set labelled_set number from_on from_to comma counts sign repetition grouped step go parse whole expression_of
tried = (refl, refl, refl, refl, refl, refl, refl, refl, refl, refl, refl, refl, refl, refl)

-- "A `-` may begin an item only first or just before the closing `]`": in the middle it may not, whatever follows it inside
hyphen_inside : (b : Sign) (s : List Sign) → items false (byte (code "-") ∷ (b ∷ s)) ≡ none
unfolding items provided
hyphen_inside b [] = refl
hyphen_inside b (d ∷ s) = refl

-- "A class may stand .. never as a range's end": neither as the last, nor as the first
class_no_last_end : (first : Bool) (c : ℕ) (n : List ℕ) (s : List Sign) → items first (byte c ∷ (byte (code "-") ∷ (class n ∷ s))) ≡ none
unfolding items provided
class_no_last_end first c n s = provided_none (begins first c)

class_no_first_end : (first : Bool) (n : List ℕ) (b : Sign) (s : List Sign) → items first (class n ∷ (byte (code "-") ∷ (b ∷ s))) ≡ none
unfolding items provided
class_no_first_end first n b s = ap (with (classed n)) (hyphen_inside b s)
