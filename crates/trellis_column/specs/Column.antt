-- One column of the trace, by its costs and the next row of costs to go: the blanks that lie on a cheapest path, the lowest label of the
-- kept states, and the states that have it.
use Rattle.std.specs.Prelude.{ℕ, ◌+◌, ◌*◌, ◌-◌, ◌/◌, ◌≤◌, ◌<◌, ◌≡◌, Bool, List, length, get_or}
use Rattle.lists.specs.Marks.{Has}
use Rattle.automaton.specs.Automaton.{Automaton}
use Rattle.trellis.specs.Reached.{entering}
use Rattle.trellis_steps.specs.Steps.{AddUp, KeptOf}

-- a number above all labels
abbrev pub NONE : ℕ
NONE = 256

-- some state is kept: a step from the set leads to it, and it lies on a cheapest path
abbrev pub SomeKept : Automaton → (column row : List ℕ) → ℕ → (ℕ → Type 0) → Type 0
SomeKept A column row v In = (u : ℕ) × KeptOf A column row v In u

-- the state that a step from state s by the blank leads to: in blanks after the letter of s
abbrev pub blank_after : ℕ → ℕ
blank_after s = (s + 1) / 2 * 2

-- the blanks after state s, if their cost to go is `left`
abbrev pub BlankOf : (row : List ℕ) (left s u : ℕ) → Type 0
BlankOf row left s u = (u ≡ blank_after s) × (get_or row u 0 ≡ left)

-- the same of the state at index k of a list
abbrev pub BlankAt : (row : List ℕ) (left : ℕ) (list : List ℕ) (k u : ℕ) → Type 0
BlankAt row left list k u = BlankOf row left (get_or list k 0) u

-- the blanks after the states of the set that lie on a cheapest path
abbrev pub Blanks : (column row : List ℕ) → ℕ → (ℕ → Type 0) → ℕ → Type 0
Blanks column row v In u = (s : ℕ) × In s × (u ≡ blank_after s) × AddUp column row v 0 u

-- the blanks after each state of the set are states, and have a cost to go
abbrev pub BlanksInside : List ℕ → (ℕ → Type 0) → Type 0
BlanksInside row In = (s : ℕ) → In s → (blank_after s < 255) × (blank_after s < length row)

-- `near` has some of the kept states, and with each of them all kept states whose label is as low or lower
pub record LowEnough (A : Automaton) (column row : List ℕ) (v : ℕ) (In : ℕ → Type 0) (near : List Bool) : Type 0 where
  pub hit : (u : ℕ) → Has near u → KeptOf A column row v In u
  pub some : (u : ℕ) × Has near u
  pub low : (u w : ℕ) → KeptOf A column row v In u → Has near w → entering A u ≤ entering A w → Has near u

-- x is the label of a state of the set
abbrev pub LabelIn : Automaton → (ℕ → Type 0) → ℕ → Type 0
LabelIn A In x = (u : ℕ) × In u × (x ≡ entering A u)

-- x is offered, and nothing below it
abbrev pub Lowest : (ℕ → Type 0) → ℕ → Type 0
Lowest Offered x = Offered x × ((y : ℕ) → Offered y → x ≤ y)

-- x is the label of the state at index k of a list
abbrev pub LabelAt : Automaton → List ℕ → (k x : ℕ) → Type 0
LabelAt A list k x = x ≡ entering A (get_or list k 0)

-- the states of the set whose label is x
abbrev pub OfLabel : Automaton → (x : ℕ) → (ℕ → Type 0) → ℕ → Type 0
OfLabel A x In u = In u × (entering A u ≡ x)

-- state s, if its label is x
abbrev pub Picks : Automaton → (x s u : ℕ) → Type 0
Picks A x s u = (u ≡ s) × (entering A u ≡ x)

-- the same of the state at index k of a list
abbrev pub PicksAt : Automaton → (x : ℕ) → List ℕ → (k u : ℕ) → Type 0
PicksAt A x list k u = Picks A x (get_or list k 0) u

-- after the column: the lowest label of the kept states, what is left to pay, and the kept states of that label
pub record Taken (A : Automaton) (column row : List ℕ) (v : ℕ) (In : ℕ → Type 0) (label left : ℕ) (In' : ℕ → Type 0) : Type 0 where
  pub lowest : (u : ℕ) → KeptOf A column row v In u → label ≤ entering A u
  pub one : ℕ
  pub kept : KeptOf A column row v In one
  pub by_label : entering A one ≡ label
  pub hit : (u : ℕ) → In' u → KeptOf A column row v In u × (entering A u ≡ label)
  pub all : (u : ℕ) → KeptOf A column row v In u → entering A u ≡ label → In' u
  pub paid : left ≡ v - get_or column label 0
