-- Sets of numbers, as lists of truth values or of their members, and what it means that places were marked.
use Rattle.std.specs.Prelude.{ℕ, ◌<◌, ◌≤◌, ◌≡◌, Bool, true, false, ◌⊎◌, List, length, get_or}

-- k is in the set
abbrev pub Has : List Bool → ℕ → Type 0
Has s k = get_or s k false ≡ true

-- the places that P names were marked, and no others
pub record Marks (P : ℕ → Type 0) (before after : List Bool) : Type 0 where
  pub size : length after ≡ length before
  pub kept : (k : ℕ) → Has before k → Has after k
  pub marked : (k : ℕ) → P k → Has after k
  pub only : (k : ℕ) → Has after k → Has before k ⊎ P k

-- place k is i, for which Q holds
abbrev pub OnlyAt : (Q : ℕ → Type 0) (i k : ℕ) → Type 0
OnlyAt Q i k = (k ≡ i) × Q i

-- u is among the first n elements of a list
abbrev pub Listed : List ℕ → (n u : ℕ) → Type 0
Listed xs n u = (k : ℕ) × (k < n) × (get_or xs k 0 ≡ u)

-- Iteration i of a loop marks the places that Q i names: place k is named by some iteration from m on, below n.
abbrev pub Iterations : (ℕ → ℕ → Type 0) → ℕ → ℕ → ℕ → Type 0
Iterations Q m n k = (i : ℕ) × (m ≤ i) × (i < n) × Q i k
