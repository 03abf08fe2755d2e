-- What the cells of the table of costs to go are computed from: the cost where no column is left, and what the letters offer that a letter's
-- arcs lead to: prices, or keys, which are prices with labels.
use Rattle.std.specs.Prelude.{ℕ, ◌≡◌, Bool, true, false}
use Rattle.automaton.specs.Automaton.{Automaton}
use Rattle.trellis.specs.Impossible.{TOP}

-- what there is to pay where no column is left: nothing if a path may end there, else TOP
abbrev pub ending : Bool → ℕ
ending true = 0
ending false = TOP

-- what the arcs of letter i offer, without those to a letter of label `own`; if `own` is 0, what all of them offer
abbrev pub ByArc : Automaton → (offer : ℕ → ℕ) → (i own : ℕ) → ℕ → Type 0
ByArc A offer i own n = (j : ℕ) × (A.follow i j ≡ true) × (A.label j ≡ own → ⊥) × (n ≡ offer j)
