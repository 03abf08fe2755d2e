-- The keys of a column: for each letter the cost of its label plus what there is to pay after it by the row of the next column, and its
-- label, as one number.
use Rattle.std.specs.Prelude.{ℕ, ◌+◌, ◌*◌, ◌-◌, ◌%◌, ◌<◌, ◌≤◌, ◌≡◌, List, length, get_or}
use Rattle.lists.specs.Stored.{Outside}
use Rattle.automaton.specs.Form.{letters_of, alphabet_of, label_of}

-- what the keys of a column of a valid form are computed from: its costs, and the row of the next column, at `next`
pub record Ahead (f column work : List ℕ) (next : ℕ) : Type 0 where
  pub wide : alphabet_of f < length column
  pub room : next + 2 * letters_of f < length work

-- the price of a step to letter j and of all that comes after it, which may be above TOP
abbrev pub total : (f column work : List ℕ) (next j : ℕ) → ℕ
total f column work next j = get_or column (label_of f j) 0 + get_or work (next + (2 * j - 1)) 0

-- the key of letter j: labels are below 256
abbrev pub key_for : (f column work : List ℕ) (next j : ℕ) → ℕ
key_for f column work next j = total f column work next j * 256 + label_of f j

-- the keys of the letters below n were written, and nothing else
pub record KeysBelow (f column work : List ℕ) (next : ℕ) (before after : List ℕ) (n : ℕ) : Type 0 where
  pub is : (j : ℕ) → 1 ≤ j → j < n → get_or after j 0 ≡ key_for f column work next j
  pub outside : Outside 1 n before after

-- the keys of all letters
abbrev pub KeysFilled : (f column work : List ℕ) (next : ℕ) (before after : List ℕ) → Type 0
KeysFilled f column work next before after = KeysBelow f column work next before after (letters_of f + 1)

-- keys for the letters 1 to 127; those of the form's letters have their labels as low bytes
pub record Keys (f ks : List ℕ) : Type 0 where
  pub label : (j : ℕ) → 1 ≤ j → j ≤ letters_of f → get_or ks j 0 % 256 ≡ label_of f j
