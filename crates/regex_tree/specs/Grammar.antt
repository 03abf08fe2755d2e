-- The grammar (document 01, "Expression text"): which texts a tree has, and so which words a text has.
use Rattle.std.specs.Prelude.{◌≡◌, List, [], ◌∷◌, ◌++◌, ℕ, zero, suc, ◌≤◌}
use Prim.Native.Char.{code}
use Rattle.regex_tree.specs.Tree.{Tree, set, group, times, join, either, Words}
use Rattle.regex_tree.specs.Parsing.{found}
use Rattle.regex_tree.specs.Sets.{labelled_set}
use Rattle.regex_tree.specs.Repetition.{repetition}

-- how loosely a tree's parts are bound: "Alternation `|` binds loosest, then joining, then repetition"
abbrev pub loose : Tree → ℕ
loose (set c) = 0
loose (group r) = 0
loose (times r c) = 1
loose (join r s) = 2
loose (either r s) = 3

-- w is a text of the tree over the alphabet A, with at most d groups open together
abbrev pub TextOf : List ℕ → ℕ → Tree → List ℕ → Type 0
TextOf A d (set c) w = labelled_set A w ≡ found c []
TextOf A zero (group r) w = ⊥
TextOf A (suc d) (group r) w = (u : List ℕ) × (w ≡ code "(" ∷ (u ++ (code ")" ∷ []))) × TextOf A d r u
TextOf A d (times r c) w = (u : List ℕ) × (v : List ℕ) × (w ≡ u ++ v) × TextOf A d r u × (loose r ≤ 0) × (repetition v ≡ found c [])
TextOf A d (join r s) w = (u : List ℕ) × (v : List ℕ) × (w ≡ u ++ v) × TextOf A d r u × (loose r ≤ 1) × TextOf A d s v × (loose s ≤ 2)
TextOf A d (either r s) w = (u : List ℕ) × (v : List ℕ) × (w ≡ u ++ (code "|" ∷ v)) × TextOf A d r u × (loose r ≤ 2) × TextOf A d s v

-- "An expression's set of words goes by its text": the list of labels w is a word of the text s.
abbrev pub WordsOf : List ℕ → List ℕ → List ℕ → Type 0
WordsOf A s w = (t : Tree) × TextOf A 16 t s × Words A t w
