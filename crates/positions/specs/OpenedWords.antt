-- Which words an opened expression has, by its shape.
use Rattle.std.specs.Prelude.{ℕ, suc, ◌≡◌, ◌⊎◌, List, [], ◌∷◌, ◌++◌}
use Rattle.regex_tree.specs.Tree.{Joined}
use Rattle.positions.specs.Opened.{Opened, letter, joining, alternation, optional, star, plus, empty, never}

abbrev pub OpenedWords : Opened → List ℕ → Type 0
OpenedWords (letter a) w = w ≡ a ∷ []
OpenedWords (joining r s) w = (u : List ℕ) × (v : List ℕ) × (w ≡ u ++ v) × OpenedWords r u × OpenedWords s v
OpenedWords (alternation r s) w = OpenedWords r w ⊎ OpenedWords s w
OpenedWords (optional r) w = (w ≡ []) ⊎ OpenedWords r w
OpenedWords (star r) w = (k : ℕ) × Joined (OpenedWords r) k w
OpenedWords (plus r) w = (k : ℕ) × Joined (OpenedWords r) (suc k) w
OpenedWords empty w = w ≡ []
OpenedWords never w = ⊥
