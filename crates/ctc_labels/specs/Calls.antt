-- Which lists of labels the calls turn away (document 01, "What is turned away", refusal 17).
use Rattle.std.specs.Prelude.{ℕ, Bool, not, ◌||◌, List, length, ltb}
use Rattle.lists.specs.Lists.{in_range}
use Rattle.lists.specs.Each.{all}

-- K is not 1 to 95, the list is longer than 255, or a label is not from `low` to K: a path's labels begin at 0, a word's at 1
abbrev pub label_fault : ℕ → ℕ → List ℕ → Bool
label_fault k low list = not (in_range 1 95 k) || (ltb 255 (length list) || not (all (in_range low k) list))
