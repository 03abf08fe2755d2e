-- The order of paths: by labels, from the first column.
use Rattle.std.specs.Prelude.{ℕ, ◌<◌, ◌≡◌, List, [], ◌∷◌, ◌⊎◌}

-- p is q, or the beginning of q, or has the lower label in the first place where they differ
abbrev pub NotAfter : List ℕ → List ℕ → Type 0
NotAfter [] q = Unit {0}
NotAfter (x ∷ p) [] = ⊥
NotAfter (x ∷ p) (y ∷ q) = (x < y) ⊎ ((x ≡ y) × NotAfter p q)
