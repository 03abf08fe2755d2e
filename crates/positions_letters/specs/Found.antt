-- What the parser found, and the text that is left after it.
use Rattle.std.specs.Prelude.{List, [], Bool, true, false, ℕ}
use Rattle.regex_tree.specs.Tree.{only, Count, between, Tree, set}
use Rattle.regex_tree.specs.Parsing.{Parsing, found, fault}
use Rattle.regex_tree.specs.Repetition.{repeats, repetition}

-- what was found; d if nothing was
abbrev pub found_or : {X : Type 0} → X → Parsing X → X
found_or d (found a r) = a
found_or d (fault n r) = d

abbrev pub rest_of : {X : Type 0} → Parsing X → List ℕ
rest_of (found a r) = r
rest_of (fault n r) = r

abbrev pub tree_of : Parsing Tree → Tree
tree_of x = found_or (set (only [])) x

abbrev pub count_of : Parsing Count → Count
count_of x = found_or (between 1 1) x

-- the repetition with which a text begins; once, if it begins with none
abbrev pub repetition_if : Bool → List ℕ → Parsing Count
repetition_if true s = repetition s
repetition_if false s = found (between 1 1) s

unfoldable pub counted : List ℕ → Parsing Count
counted s = repetition_if (repeats s) s
