-- What the functions that store one column line, or several, answer: for the columns in the rest of the input from a place on, and the
-- memory from a place on.
use Rattle.std.specs.Prelude.{◌≡◌, Bool, true, ℕ, ◌+◌, ◌<◌, ◌≤◌, length, drop, eqb, Option, Some, None}
use Rattle.std.proofs.Math.Option.{some}
use mathlib.Core.List.{List, ◌∷◌, flatten}
use Rattle.lists.specs.Each.{all}
use Rattle.lists.specs.Stored.{Stored}
use Rattle.text_lines.specs.Lines.{both}
use Rattle.sheet_format.specs.ColumnLines.{columns_in}
use Rattle.sheet_columns.specs.declared.Column.{Column}

-- The first 16,384 places may hold anything, and the rest of the memory is unchanged.
pub record Spoilt (before after : List ℕ) : Type 0 where
  pub size : length after ≡ length before
  pub beyond : drop 16384 after ≡ drop 16384 before

-- One column line.

-- the first column of the rest is stored at the places from m up to f, and the rest after its line begins at e
pub record OneColumn (input : List ℕ) (at m : ℕ) (before after : List ℕ) (e f : ℕ) : Type 0 where
  pub costs : List ℕ
  pub is : columns_in (drop at input) ≡ both (some costs) (columns_in (drop e input))
  pub stored : Stored costs m before after f
  pub from : at < e
  pub within : e ≤ length input
  pub some_cost : m < f
  pub room : f ≤ 16384

abbrev pub StoredColumn : List ℕ → ℕ → ℕ → List ℕ → List ℕ → Option Column → Type 0
StoredColumn input at m before after (Some r) = OneColumn input at m before after r.end r.filled
StoredColumn input at m before after None =
    ((c : List ℕ) (cs : List (List ℕ)) → columns_in (drop at input) ≡ some (c ∷ cs) → 16384 < m + length c) × Spoilt before after

-- All column lines from a place on, each with w costs; m costs and n columns come before them.

abbrev pub wide : ℕ → List (List ℕ) → Bool
wide w cs = all (λ d. eqb (length d) w) cs

pub record SomeColumns (w : ℕ) (input : List ℕ) (at m n : ℕ) (before after : List ℕ) (count : ℕ) : Type 0 where
  pub columns : List (List ℕ)
  pub are : columns_in (drop at input) ≡ some columns
  pub equal : wide w columns ≡ true
  pub counted : count ≡ n + length columns
  pub stored : Stored (flatten columns) m before after (m + length (flatten columns))
  pub room : m + length (flatten columns) ≤ 16384

abbrev pub StoredColumns : ℕ → List ℕ → ℕ → ℕ → ℕ → List ℕ → List ℕ → Option ℕ → Type 0
StoredColumns w input at m n before after (Some count) = SomeColumns w input at m n before after count
StoredColumns w input at m n before after None =
    ((cs : List (List ℕ)) → columns_in (drop at input) ≡ some cs → wide w cs ≡ true → 16384 < m + length (flatten cs)) × Spoilt before after
