-- The letters that follow the letters of a head, as rows of truth values. The parent of a letter is the head of what is before it.
use Rattle.std.specs.Prelude.{ℕ, ◌<◌, ◌≤◌, ◌≡◌, Bool, false, List, [], length, get_or, eqb}
use Rattle.std.proofs.Common.{arith}

-- the letters whose parent is this head
pub record RowAfter (letters : ℕ) (parents : List ℕ) (head : ℕ) (row : List Bool) : Type 0 where
  pub size : length row ≡ 127
  pub at : (i : ℕ) → i < letters → get_or row i false ≡ eqb (get_or parents i 0) head

-- such a row for each letter
pub record RowsAfter (letters : ℕ) (parents heads : List ℕ) (rows : List (List Bool)) : Type 0 where
  pub size : length rows ≡ 127
  pub row : (i : ℕ) → i < letters → RowAfter letters parents (get_or heads i 0) (get_or rows i [])

-- What the two loops store at each index.

abbrev pub Follows : (parents : List ℕ) (head i : ℕ) → Bool → Type 0
Follows parents head i v = v ≡ eqb (get_or parents i 0) head

abbrev pub Followers : (letters : ℕ) (parents heads : List ℕ) (i : ℕ) → List Bool → Type 0
Followers letters parents heads i row = RowAfter letters parents (get_or heads i 0) row

-- of fewer letters
pub row_fewer : (n : ℕ) (parents : List ℕ) (head : ℕ) (row : List Bool) → n ≤ 127 → RowAfter 127 parents head row → RowAfter n parents head row
row_fewer n parents head row l r = record { size = r.size; at = λ i h. r.at i (omega arith) }

pub rows_fewer :
    (n : ℕ) (parents heads : List ℕ) (rows : List (List Bool)) → n ≤ 127 → RowsAfter 127 parents heads rows → RowsAfter n parents heads rows
rows_fewer n parents heads rows l r =
    record { size = r.size; row = λ i h. row_fewer n parents (get_or heads i 0) (get_or rows i []) l (r.row i (omega arith)) }
