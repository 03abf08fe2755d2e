-- The states that a step from a set of extended states leads to, and the label by which a state is entered.
use Rattle.std.specs.Prelude.{ℕ, ◌+◌, ◌/◌, ◌%◌, cond, eqb}
use Rattle.automaton.specs.Automaton.{Automaton}
use Rattle.trellis.specs.Extended.{Step}

-- the label of every step into a state: the blank, or that of its letter
unfoldable pub entering : Automaton → ℕ → ℕ
entering A s = cond (eqb (s % 2) 0) 0 (A.label ((s + 1) / 2))

-- some step from the set leads to the state
abbrev pub Reached : Automaton → (ℕ → Type 0) → ℕ → Type 0
Reached A In u = (s : ℕ) × In s × Step A s (entering A u) u
