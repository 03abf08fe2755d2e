-- A list of the letters that may be first.
use Rattle.std.specs.Prelude.{ℕ, ◌+◌, ◌<◌, ◌≡◌, true, List, length, get_or}
use Rattle.lists.specs.Marks.{Listed}
use Rattle.automaton.specs.Form.{letters_of, follow_of}

-- the list begins with the letters below m that may be first, n of them, in their order
pub record FirstsBelow (f : List ℕ) (m : ℕ) (list : List ℕ) (n : ℕ) : Type 0 where
  pub size : length list ≡ 128
  pub few : n < m
  pub below : (k : ℕ) → k < n → get_or list k 0 < m
  pub rises : (k : ℕ) → k + 1 < n → get_or list k 0 < get_or list (k + 1) 0
  pub is : (k : ℕ) → k < n → follow_of f 0 (get_or list k 0) ≡ true
  pub all : (j : ℕ) → j < m → follow_of f 0 j ≡ true → Listed list n j

-- the list begins with all letters that may be first
abbrev pub Firsts : (f list : List ℕ) (n : ℕ) → Type 0
Firsts f list n = FirstsBelow f (letters_of f + 1) list n
