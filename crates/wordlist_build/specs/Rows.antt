-- What the arrays of a prefix tree hold, a row for each letter.
use Rattle.std.specs.Prelude.{ℕ, ◌<◌, ◌≡◌, Bool, false, List, length, get_or}
use Rattle.wordlist_build.specs.declared.Trie.{Trie}

pub record Row : Type 0 where
  pub label : ℕ
  pub character : ℕ
  pub parent : ℕ
  pub head : ℕ
  pub last : Bool

-- the row at an index
abbrev pub entry : Trie → ℕ → Row
entry t i = record {
  label = get_or t.labels i 0;
  character = get_or t.characters i 0;
  parent = get_or t.parents i 0;
  head = get_or t.heads i 0;
  last = get_or t.last i false;
}

-- what a row past the last one counts as
abbrev pub no_row : Row
no_row = record { label = 0; character = 0; parent = 0; head = 0; last = false }

-- the arrays hold these rows
pub record Holds (t : Trie) (rows : List Row) : Type 0 where
  pub count : t.letters ≡ length rows
  pub at : (i : ℕ) → i < length rows → entry t i ≡ get_or rows i no_row

-- the row of a new letter
abbrev pub new_row : (c parent head x : ℕ) → Row
new_row c parent head x = record { label = x; character = c; parent = parent; head = head; last = false }
