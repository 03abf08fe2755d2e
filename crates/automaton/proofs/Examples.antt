-- Compiled forms, computed: encoded, tested, taken apart; and lists that are no forms.
use Rattle.std.specs.Prelude.{ℕ, ◌≡◌, refl, true, false, ◌&&◌, ◌||◌, replicate, eqb}
use mathlib.Core.List.{List, [], ◌∷◌, ◌++◌, map, flat_map}
use Rattle.lists.specs.Lists.{in_range, any, keep, numbers}
use Rattle.lists.specs.Each.{all}
use Rattle.automaton.specs.Automaton.{Automaton}
use Rattle.automaton.specs.Accepted.{spells, accepts}
use Rattle.automaton.specs.Form.{letters_of, alphabet_of, label_of, ordered, valid_form, follow_of, ends_of, view, encode}
use Rattle.automaton.specs.Arrays.{arrayed}

-- Three automata over the alphabet `ab`: letter 1 is the a, letter 2 the b.

-- document 01's `ab*`
ab* : Automaton
ab* = record {
  letters = 2;
  label = λ i. i;
  follow = λ i j. eqb i 0 && eqb j 1 || (in_range 1 2 i && eqb j 2);
  ends = λ i. in_range 1 2 i;
}

-- `(ab)*` accepts the empty word
ab_repeated : Automaton
ab_repeated = record {
  letters = 2;
  label = λ i. i;
  follow = λ i j. eqb i 0 && eqb j 1 || (eqb i 1 && eqb j 2 || eqb i 2 && eqb j 1);
  ends = λ i. eqb i 0 || eqb i 2;
}

-- `(a|b)*`: in the order of target the second arc would be the third
a_or_b_repeated : Automaton
a_or_b_repeated = record { letters = 2; label = λ i. i; follow = λ i j. in_range 1 2 j; ends = λ i. true }

abbrev form : List ℕ
form = 0x10020002 ∷ 0x20000301 ∷ 0x20000202 ∷ 0x30000102 ∷ 0x30000202 ∷ []

abbrev nullable : List ℕ
nullable = 0x10020102 ∷ 0x20000101 ∷ 0x20000202 ∷ 0x30000102 ∷ 0x30000201 ∷ []

abbrev either : List ℕ
either = 0x10020102 ∷ 0x20000301 ∷ 0x20000302 ∷ 0x30000101 ∷ 0x30000102 ∷ 0x30000201 ∷ 0x30000202 ∷ []

record Encoded : Type 0 where
  starred : encode 2 ab* ≡ form
  empty_word : encode 2 ab_repeated ≡ nullable
  by_source : encode 2 a_or_b_repeated ≡ either

encoded : Encoded
unfolding encode keep numbers flat_map ab* ab_repeated a_or_b_repeated
encoded = record { starred = refl; empty_word = refl; by_source = refl }

-- the parts of a form: letters, characters, labels; which letters may be first and which last; the arcs of each
record Parts : Type 0 where
  counts : letters_of nullable ∷ alphabet_of nullable ∷ map (label_of nullable) (1 ∷ 2 ∷ []) ≡ 2 ∷ 2 ∷ 1 ∷ 2 ∷ []
  firsts : keep (follow_of form 0) (numbers 0 4) ≡ 1 ∷ []
  lasts : keep (ends_of form) (numbers 0 4) ≡ 1 ∷ 2 ∷ []
  nullable_ends : keep (ends_of nullable) (numbers 0 4) ≡ 0 ∷ 2 ∷ []
  arcs : map (λ i. keep (follow_of nullable i) (numbers 0 4)) (numbers 0 4) ≡ (1 ∷ []) ∷ (2 ∷ []) ∷ (1 ∷ []) ∷ [] ∷ []

parts : Parts
unfolding keep numbers follow_of ends_of
parts = record { counts = refl; firsts = refl; lasts = refl; nullable_ends = refl; arcs = refl }

-- Accepted words, as labels.
abbrev words : List (List ℕ)
words = [] ∷ (1 ∷ []) ∷ (2 ∷ []) ∷ (1 ∷ 2 ∷ []) ∷ (1 ∷ 2 ∷ 2 ∷ []) ∷ (1 ∷ 2 ∷ 1 ∷ []) ∷ (1 ∷ 2 ∷ 1 ∷ 2 ∷ []) ∷ []

record Words : Type 0 where
  starred : map (accepts (view form)) words ≡ false ∷ true ∷ false ∷ true ∷ true ∷ false ∷ false ∷ []
  empty_word : map (accepts (view nullable)) words ≡ true ∷ false ∷ false ∷ true ∷ false ∷ false ∷ true ∷ []

accepted : Words
unfolding spells numbers follow_of ends_of
accepted = record { starred = refl; empty_word = refl }

-- Lists that are forms: those above, one letter and one character, 95 characters, 127 letters.
forms : List (List ℕ)
forms =
    form ∷ nullable ∷ either ∷ (0x10010001 ∷ 0x20000001 ∷ []) ∷ (0x105f0001 ∷ 0x2000005f ∷ []) ∷ (0x1001007f ∷ replicate 127 0x20000001)
    ∷ (0x1001007f ∷ (replicate 127 0x20000001 ++ (0x30007f7f ∷ []))) ∷ []

-- Lists that are no forms, each with one fault.
no_forms : List (List ℕ)
no_forms =
    -- no head; a letter missing; no letter; 128 letters; no character; 96 characters; an unnamed bit; another kind
    [] ∷ (0x10010001 ∷ []) ∷ (0x10010000 ∷ []) ∷ (0x10010080 ∷ replicate 128 0x20000001) ∷ (0x10000001 ∷ 0x20000001 ∷ [])
    ∷ (0x10600001 ∷ 0x20000001 ∷ []) ∷ (0x10010201 ∷ 0x20000001 ∷ []) ∷ (0x11010001 ∷ 0x20000001 ∷ []) ∷ (0x20010001 ∷ 0x20000001 ∷ [])
    -- in a letter: label 0; a label over K; an unnamed bit; another kind
    ∷ (0x10010001 ∷ 0x20000000 ∷ []) ∷ (0x10010001 ∷ 0x20000002 ∷ []) ∷ (0x10010001 ∷ 0x20000401 ∷ []) ∷ (0x10010001 ∷ 0x30000101 ∷ [])
    -- in an arc: source 0; target 0; source or target over L; an unnamed bit; another kind
    ∷ (0x10010001 ∷ 0x20000001 ∷ 0x30000001 ∷ []) ∷ (0x10010001 ∷ 0x20000001 ∷ 0x30000100 ∷ []) ∷ (0x10010001 ∷ 0x20000001 ∷ 0x30000201 ∷ [])
    ∷ (0x10010001 ∷ 0x20000001 ∷ 0x30000102 ∷ []) ∷ (0x10010001 ∷ 0x20000001 ∷ 0x30010101 ∷ []) ∷ (0x10010001 ∷ 0x20000001 ∷ 0x20000001 ∷ [])
    -- in the arcs: one twice; in the order of target and not of source; descending by target
    ∷ (0x10010001 ∷ 0x20000001 ∷ 0x30000101 ∷ 0x30000101 ∷ []) ∷ (0x10010002 ∷ 0x20000001 ∷ 0x20000001 ∷ 0x30000201 ∷ 0x30000102 ∷ [])
    ∷ (0x10010002 ∷ 0x20000001 ∷ 0x20000001 ∷ 0x30000102 ∷ 0x30000101 ∷ []) ∷ []

valid : (all valid_form forms ≡ true) × (any valid_form no_forms ≡ false)
unfolding forms no_forms valid_form ordered
valid = (refl, refl)

-- the same `ab*` by arrays, with a third entry that means nothing
unfoldable pub ab*_by_arrays : Automaton
ab*_by_arrays =
    arrayed 2 false (1 ∷ 2 ∷ 9 ∷ []) (true ∷ false ∷ true ∷ []) (true ∷ true ∷ true ∷ [])
    ((false ∷ true ∷ true ∷ []) ∷ (false ∷ true ∷ true ∷ []) ∷ (true ∷ true ∷ true ∷ []) ∷ [])

by_arrays : encode 2 ab*_by_arrays ≡ form
unfolding encode keep numbers flat_map arrayed ab*_by_arrays
by_arrays = refl
