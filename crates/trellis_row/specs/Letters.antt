-- The costs to go of a letter's two states in a row, by the keys and the row of the next column; and those of all letters.
use Rattle.std.specs.Prelude.{ℕ, ◌+◌, ◌*◌, ◌-◌, ◌/◌, ◌<◌, ◌≤◌, min, ◌≡◌, List, length, get_or}
use Rattle.lists.specs.Stored.{Outside}
use Rattle.automaton.specs.Form.{letters_of, label_of}
use Rattle.trellis_offers.specs.Offers.{key_of, LeastKey, LeastOther}

-- the number of states, 0 to 2L
abbrev pub states : List ℕ → ℕ
states f = 2 * letters_of f + 1

-- what the states of letter i are computed from, beside its arcs and the keys: the least key of the letter before, and the row of the next
-- column; p is the place of its blanks, and that row is `stride` further on
pub record LetterReady (f ks work : List ℕ) (p stride i least : ℕ) : Type 0 where
  pub first : 1 ≤ i
  pub last : i ≤ letters_of f
  pub before : LeastKey f ks (i - 1) least
  pub low : 1 ≤ p
  pub room : p + stride < length work

-- the costs to go of letter i's states, on it and in the blanks after it; `rest` is the price of a step into the blanks
pub record LetterCells (f ks : List ℕ) (rest i least on blanks : ℕ) : Type 0 where
  pub along_all : LeastKey f ks i least
  pub other : ℕ
  pub along_other : LeastOther f ks i (label_of f i) other
  pub on_is : on ≡ min (min (key_of ks i) other / 256) rest
  pub blanks_is : blanks ≡ min (least / 256) rest

-- the states of letter i were written, and nothing else; p is the place of its blanks, q their place in the row of the next column
pub record LetterFilled (f ks : List ℕ) (blank : ℕ) (before after : List ℕ) (p q i least : ℕ) : Type 0 where
  pub cells : LetterCells f ks (blank + get_or before q 0) i least (get_or after (p - 1) 0) (get_or after p 0)
  pub outside : Outside (p - 1) (p + 1) before after

-- what the states of all letters are computed from; the row to be written is at `here`, that of the next column `stride` further on
pub record LettersReady (f ks work : List ℕ) (here stride first : ℕ) : Type 0 where
  pub apart : 2 * letters_of f < stride
  pub room : here + stride + 2 * letters_of f < length work
  pub least : LeastKey f ks 0 first

-- the costs to go of letter i's states in the row at `here`, by the row that was at `next`
abbrev pub CellsAt : (f ks : List ℕ) (blank : ℕ) (before after : List ℕ) (here next i : ℕ) → Type 0
CellsAt f ks blank before after here next i =
    (least : ℕ) × LetterCells f ks (blank + get_or before (next + 2 * i) 0) i least (get_or after (here + (2 * i - 1)) 0) (get_or after (here + 2 * i) 0)

-- the states of the letters below n were written, and nothing except states of letters
pub record LettersFilled (f ks : List ℕ) (blank : ℕ) (before after : List ℕ) (here next n : ℕ) : Type 0 where
  pub cells : (i : ℕ) → 1 ≤ i → i < n → CellsAt f ks blank before after here next i
  pub outside : Outside (here + 1) (here + states f) before after
