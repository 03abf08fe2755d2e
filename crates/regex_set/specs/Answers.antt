-- What the functions of this crate and of `regex_parse` answer, by the definitions of `regex`.
use Rattle.std.specs.Prelude.{◌≡◌, List, true, ℕ, drop, Result, Ok, Err}
use Rattle.regex_tree.specs.Tree.{Set, Tree, set}
use Rattle.regex_tree.specs.Parsing.{Parsing, found, fault, then}
use Rattle.regex_tree.specs.Letters.{letter_count}
use Rattle.regex_tree.specs.Few.{few}
use Rattle.regex_tree.specs.Sets.{a_set, labelled_set}
use Rattle.text.specs.Places.{place}
use Rattle.regex_bracket.specs.Answers.{is_found, set_of}
use Rattle.regex_set.specs.declared.Part.{Part}
use Rattle.refusal.specs.declared.Refusal.{Refusal}

-- where it ends, and its letters
abbrev pub part : ℕ → ℕ → Part
part e n = record { end = e; letters = n }

-- where what was found in the text ends, and its letters, counted up to 128; or the refusal
abbrev pub part_of : List ℕ → List ℕ → Parsing Tree → Result Part Refusal
part_of A text (found t r) = Ok (part (place text r) (few (letter_count A t)))
part_of A text (fault n r) = Err n

-- the set with which a text begins, if it has a label, as a tree
abbrev pub set_tree : List ℕ → List ℕ → Parsing Tree
set_tree A s = then (labelled_set A s) (λ c r. found (set c) r)

-- the set at a place, where there is one
abbrev pub SetAt : List ℕ → ℕ → Type 0
SetAt text at = is_found (a_set (drop at text)) ≡ true

abbrev pub set_at : List ℕ → ℕ → Set
set_at text at = set_of (a_set (drop at text))
