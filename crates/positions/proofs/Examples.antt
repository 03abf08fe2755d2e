-- Some expressions with their letters, computed.
use Rattle.std.specs.Prelude.{ℕ, ◌≡◌, refl, Bool, true, false}
use Prim.Native.Char.{code}
use mathlib.Core.List.{List, [], ◌∷◌, map, flat_map}
use Rattle.lists.specs.Lists.{keep, numbers}
use Rattle.automaton.specs.Automaton.{Automaton}
use Rattle.regex_tree.specs.Tree.{range, only, except, between, onward, Tree, set, group, times, join, either}
use Rattle.positions.specs.Opened.{any_of, copies, nested, repeated, opened, labels}
use Rattle.automaton.specs.Form.{encode}
use Rattle.positions.specs.Compiled.{form_of}
use Rattle.regex_tree.specs.Letters.{labels_of, letter_count}
use Rattle.positions.specs.Numbered.{numbered, position_automaton, automaton_of}

-- the labels of the letters, whether the empty word is accepted, which letters may be first, which last, and where the arcs of each lead
data Letters : Type 0 where
  letters : List ℕ → Bool → List ℕ → List ℕ → List (List ℕ) → Letters

abbrev shown : Automaton → Letters
shown M =
    let all : List ℕ = numbers 1 M.letters in
    letters (map M.label all) (M.ends 0) (keep (M.follow 0) all) (keep M.ends all) (map (λ i. keep (M.follow i) all) all)

abbrev a : Tree
a = set (only (range (code "a") (code "a") ∷ []))

abbrev b : Tree
b = set (only (range (code "b") (code "b") ∷ []))

abbrev c : Tree
c = set (only (range (code "c") (code "c") ∷ []))

-- `r?`, `r*`, `r+`
abbrev maybe : Tree → Tree
maybe r = times r (between 0 1)

abbrev any : Tree → Tree
any r = times r (onward 0)

abbrev some : Tree → Tree
some r = times r (onward 1)

abbrev over : List ℕ → Tree → Letters
over A t = shown (automaton_of A t)

abbrev ab : List ℕ
ab = code "a" ∷ code "b" ∷ []

abbrev abc : List ℕ
abc = code "a" ∷ code "b" ∷ code "c" ∷ []

-- an alphabet that lists a twice
abbrev aba : List ℕ
aba = code "a" ∷ code "b" ∷ code "a" ∷ []

record Examples : Type 0 where
  -- document 01's `ab*`, compiled and part by part
  compiled : form_of ab (join a (any b)) ≡ 0x10020002 ∷ 0x20000301 ∷ 0x20000202 ∷ 0x30000102 ∷ 0x30000202 ∷ []
  star_beyond : over ab (join a (any b)) ≡ letters (1 ∷ 2 ∷ []) false (1 ∷ []) (1 ∷ 2 ∷ []) ((2 ∷ []) ∷ (2 ∷ []) ∷ [])
  -- `(ab)*` accepts the empty word; `(a|b)*`: arcs in the order of source, then target
  compiled_nullable : form_of ab (any (group (join a b))) ≡ 0x10020102 ∷ 0x20000101 ∷ 0x20000202 ∷ 0x30000102 ∷ 0x30000201 ∷ []
  compiled_either :
      form_of ab (any (group (either a b)))
      ≡ 0x10020102 ∷ 0x20000301 ∷ 0x20000302 ∷ 0x30000101 ∷ 0x30000102 ∷ 0x30000201 ∷ 0x30000202 ∷ []
  -- `a*`, `a+`, `a?`
  star : over ab (any a) ≡ letters (1 ∷ []) true (1 ∷ []) (1 ∷ []) ((1 ∷ []) ∷ [])
  plus : over ab (some a) ≡ letters (1 ∷ []) false (1 ∷ []) (1 ∷ []) ((1 ∷ []) ∷ [])
  optional : over ab (maybe a) ≡ letters (1 ∷ []) true (1 ∷ []) (1 ∷ []) ([] ∷ [])
  -- `(ab)*`: the arc back leads from the last letter to the first
  star_of_joining : over ab (any (group (join a b))) ≡ letters (1 ∷ 2 ∷ []) true (1 ∷ []) (2 ∷ []) ((2 ∷ []) ∷ (1 ∷ []) ∷ [])
  -- `ab?c`: an arc over the b
  over_optional : over abc (join a (join (maybe b) c)) ≡ letters (1 ∷ 2 ∷ 3 ∷ []) false (1 ∷ []) (3 ∷ []) ((2 ∷ 3 ∷ []) ∷ (3 ∷ []) ∷ [] ∷ [])
  -- `(a?b?)+`: every letter may follow every letter
  round : over ab (some (group (join (maybe a) (maybe b)))) ≡ letters (1 ∷ 2 ∷ []) true (1 ∷ 2 ∷ []) (1 ∷ 2 ∷ []) ((1 ∷ 2 ∷ []) ∷ (1 ∷ 2 ∷ []) ∷ [])
  -- `a{2}`, `a{2,}`: an arc between the copies, and one back
  twice : over ab (times a (between 2 2)) ≡ letters (1 ∷ 1 ∷ []) false (1 ∷ []) (2 ∷ []) ((2 ∷ []) ∷ [] ∷ [])
  twice_or_more : over ab (times a (onward 2)) ≡ letters (1 ∷ 1 ∷ []) false (1 ∷ []) (2 ∷ []) ((2 ∷ []) ∷ (2 ∷ []) ∷ [])
  -- `(a|b){1,3}`: no arc from the first copy to the third
  nested_optionals :
      over ab (times (group (either a b)) (between 1 3))
      ≡ letters (1 ∷ 2 ∷ 1 ∷ 2 ∷ 1 ∷ 2 ∷ []) false (1 ∷ 2 ∷ []) (1 ∷ 2 ∷ 3 ∷ 4 ∷ 5 ∷ 6 ∷ []) ((3 ∷ 4 ∷ []) ∷ (3 ∷ 4 ∷ []) ∷ (5 ∷ 6 ∷ []) ∷ (5 ∷ 6 ∷ []) ∷ [] ∷ [] ∷ [])
  counted : letter_count ab (times (group (either a b)) (between 1 3)) ≡ 6
  -- `[^b]`, and `a` where two labels have that character
  set_labels : over abc (set (except (range (code "b") (code "b") ∷ []))) ≡ letters (1 ∷ 3 ∷ []) false (1 ∷ 2 ∷ []) (1 ∷ 2 ∷ []) ([] ∷ [] ∷ [])
  same_character : over aba a ≡ letters (1 ∷ 3 ∷ []) false (1 ∷ 2 ∷ []) (1 ∷ 2 ∷ []) ([] ∷ [] ∷ [])
  -- `[^a]` there: a complement leaves out all labels of a character
  all_left_out : over aba (set (except (range (code "a") (code "a") ∷ []))) ≡ letters (2 ∷ []) false (1 ∷ []) (1 ∷ []) ([] ∷ [])
  -- three labels of six, in label order
  three_labels : form_of (code "b" ∷ (code "a" ∷ (code "b" ∷ (code "a" ∷ (code "b" ∷ (code "a" ∷ [])))))) b ≡ 0x10060003 ∷ 0x20000301 ∷ 0x20000303 ∷ 0x20000305 ∷ []

examples : Examples
unfolding opened keep numbers any_of repeated copies nested labels numbered position_automaton letter_count labels_of encode flat_map
examples = record {
  compiled = refl;
  star_beyond = refl;
  compiled_nullable = refl;
  compiled_either = refl;
  star = refl;
  plus = refl;
  optional = refl;
  star_of_joining = refl;
  over_optional = refl;
  round = refl;
  twice = refl;
  twice_or_more = refl;
  nested_optionals = refl;
  counted = refl;
  set_labels = refl;
  same_character = refl;
  all_left_out = refl;
  three_labels = refl;
}
