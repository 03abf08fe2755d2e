-- What laws ask of an automaton: its arcs lead to its letters, and these have labels of the alphabet.
use Rattle.std.specs.Prelude.{ℕ, ◌≤◌, ◌≡◌, true}
use Rattle.automaton.specs.Automaton.{Automaton}

-- arcs lead to letters, and letters have labels 1 to k
pub record Proper (k : ℕ) (A : Automaton) : Type 0 where
  pub target : (i j : ℕ) → A.follow i j ≡ true → (1 ≤ j) × (j ≤ A.letters)
  pub labelled : (j : ℕ) → 1 ≤ j → j ≤ A.letters → (1 ≤ A.label j) × (A.label j ≤ k)
