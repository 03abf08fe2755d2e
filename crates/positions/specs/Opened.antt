-- Opened expressions, their letters, and how the tree of an expression opens (document 01, "Opening and the compiled form").
use Rattle.std.specs.Prelude.{ℕ, zero, suc, ◌-◌, List, [], ◌∷◌, ◌++◌, length}
use Rattle.lists.specs.Lists.{keep, numbers}
use Rattle.alphabet.specs.Labels.{character}
use Rattle.regex_tree.specs.Tree.{Set, Count, between, onward, Tree, set, group, times, join, either, member}

-- `empty` has the empty word alone and ends a chain of copies; `never` has no word and ends an alternation of labels. Neither has letters.
pub data Opened : Type 0 where
  letter : ℕ → Opened
  joining : Opened → Opened → Opened
  alternation : Opened → Opened → Opened
  optional : Opened → Opened
  star : Opened → Opened
  plus : Opened → Opened
  empty : Opened
  never : Opened

-- the labels of a set, ascending: those whose character is in it
abbrev pub labels_of_set : List ℕ → Set → List ℕ
labels_of_set A c = keep (λ x. member c (character A x)) (numbers 1 (length A))

-- the alternation of some labels
unfoldable pub any_of : List ℕ → Opened
any_of [] = never
any_of (x ∷ l) = alternation (letter x) (any_of l)

-- n copies of r, and then t
unfoldable pub copies : Opened → ℕ → Opened → Opened
copies r zero t = t
copies r (suc n) t = joining r (copies r n t)

-- k nested optionals: (r(r(r)?)?)? for 3
unfoldable pub nested : Opened → ℕ → Opened
nested r zero = empty
nested r (suc k) = optional (joining r (nested r k))

-- `r{n,m}` opens into n copies and then m - n nested optionals, `r{n,}` into n - 1 copies and r+, or r* for n = 0. `r?` is between 0 1,
-- `r*` onward 0, `r+` onward 1 and `r{n}` between n n.
unfoldable pub repeated : Opened → Count → Opened
repeated r (between n m) = copies r n (nested r (m - n))
repeated r (onward zero) = star r
repeated r (onward (suc n)) = copies r n (plus r)

-- A set opens into the alternation of its labels, ascending; a group into what it holds.
unfoldable pub opened : List ℕ → Tree → Opened
opened A (set c) = any_of (labels_of_set A c)
opened A (group r) = opened A r
opened A (times r c) = repeated (opened A r) c
opened A (join r s) = joining (opened A r) (opened A s)
opened A (either r s) = alternation (opened A r) (opened A s)

-- the labels of the letters, from left to right
unfoldable pub labels : Opened → List ℕ
labels (letter a) = a ∷ []
labels (joining r s) = labels r ++ labels s
labels (alternation r s) = labels r ++ labels s
labels (optional r) = labels r
labels (star r) = labels r
labels (plus r) = labels r
labels empty = []
labels never = []

-- the number of letters
abbrev pub letters : Opened → ℕ
letters r = length (labels r)
