-- The states that a step leads to and that lie on a cheapest path, as the code puts them: the state itself, the blanks after its letter,
-- and the letters that may follow it and have another label.
use Rattle.std.specs.Prelude.{ℕ, ◌*◌, ◌≤◌, ◌<◌, ◌≡◌, true, List, length, get_or}
use Rattle.automaton.specs.Automaton.{Automaton}
use Rattle.automaton.specs.Form.{letters_of, alphabet_of, view, target}
use Rattle.automaton.specs.Valid.{Valid}
use Rattle.trellis.specs.Impossible.{TOP, plus}
use Rattle.trellis.specs.Extended.{OnLetter, Step}
use Rattle.trellis.specs.Reached.{entering, Reached}
use Rattle.trellis_members.specs.Members.{Just}

-- a cost for each label, a cost to go for each state, and a price below TOP
pub record ColumnReady (f column row : List ℕ) (v : ℕ) : Type 0 where
  pub valid : Valid f
  pub wide : alphabet_of f < length column
  pub long : 2 * letters_of f < length row
  pub below : v < TOP

-- the cost of label x in this column and the cost to go of state u add up to v
abbrev pub AddUp : (column row : List ℕ) → (v x u : ℕ) → Type 0
AddUp column row v x u = plus (get_or column x 0) (get_or row u 0) ≡ v

-- state u lies on a cheapest path: the cost of its label and its cost to go add up to v
abbrev pub Keeps : Automaton → (column row : List ℕ) → (v u : ℕ) → Type 0
Keeps A column row v u = AddUp column row v (entering A u) u

-- u is one of the states that P names, and it lies on a cheapest path
abbrev pub KeptIn : Automaton → (column row : List ℕ) → ℕ → (ℕ → Type 0) → ℕ → Type 0
KeptIn A column row v P u = P u × Keeps A column row v u

-- a step from the set leads to state u, which lies on a cheapest path
abbrev pub KeptOf : Automaton → (column row : List ℕ) → ℕ → (ℕ → Type 0) → ℕ → Type 0
KeptOf A column row v In u = KeptIn A column row v (Reached A In) u

-- k is state u, which lies on a cheapest path if its label is x
abbrev pub KeptAt : (column row : List ℕ) → (v x u k : ℕ) → Type 0
KeptAt column row v x u k = Just u k × AddUp column row v x u

-- all states of the set are states of the form
abbrev pub Within : List ℕ → (ℕ → Type 0) → Type 0
Within f In = (s : ℕ) → In s → s ≤ 2 * letters_of f

-- a step leads from state s to state u
abbrev pub Onto : Automaton → (s u : ℕ) → Type 0
Onto A s u = Step A s (entering A u) u

-- u is the state on letter j, whose label is not `own`, the label that the path is on
abbrev pub OtherLetter : Automaton → (own j u : ℕ) → Type 0
OtherLetter A own j u = OnLetter j u × (A.label j ≡ own → ⊥)

-- the same, of a letter that may follow letter i
abbrev pub Led : Automaton → (own i j u : ℕ) → Type 0
Led A own i j u = (A.follow i j ≡ true) × OtherLetter A own j u

abbrev pub Following : Automaton → (own i u : ℕ) → Type 0
Following A own i u = (j : ℕ) × Led A own i j u

-- the same, of the target of the arc word at n
abbrev pub TargetOf : List ℕ → (own n u : ℕ) → Type 0
TargetOf f own n u = OtherLetter (view f) own (target (get_or f n 0)) u

-- a step leads to u from the state at place k of the list
abbrev pub From : Automaton → List ℕ → (k u : ℕ) → Type 0
From A list k u = Onto A (get_or list k 0) u
