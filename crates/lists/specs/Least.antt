-- The least of the numbers that are offered, or `top` where none below it is offered.
use Rattle.std.specs.Prelude.{ℕ, ◌<◌, ◌≤◌}

pub record Least (top : ℕ) (Offered : ℕ → Type 0) (v : ℕ) : Type 0 where
  pub within : v ≤ top
  pub met : v < top → Offered v
  pub least : (n : ℕ) → Offered n → v ≤ n

-- n is offered by some index from a on, below b
abbrev pub Among : (a b : ℕ) → (ℕ → ℕ → Type 0) → ℕ → Type 0
Among a b Q n = (k : ℕ) × (a ≤ k) × (k < b) × Q k n
