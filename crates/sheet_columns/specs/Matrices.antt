-- What storing the whole matrix answers: the first column line gives the width that the others must have.
use Rattle.std.specs.Prelude.{◌≡◌, true, ℕ, length, drop, Option, Some, None}
use Rattle.std.proofs.Math.Option.{some}
use mathlib.Core.List.{List, flatten}
use Rattle.lists.specs.Memory.{written}
use Rattle.sheet_format.specs.Sheet.{fitting, width_or}
use Rattle.sheet_format.specs.ColumnLines.{columns_in}
use Rattle.sheet_columns.specs.Storing.{Spoilt}
use Rattle.sheet_columns.specs.declared.Body.{Body}

pub record AllColumns (if_none : ℕ) (input : List ℕ) (at : ℕ) (before after : List ℕ) (width count : ℕ) : Type 0 where
  pub columns : List (List ℕ)
  pub are : columns_in (drop at input) ≡ some columns
  pub fits : fitting columns ≡ true
  pub is_width : width ≡ width_or if_none columns
  pub is_count : count ≡ length columns
  pub memory : after ≡ written (flatten columns) before

-- all columns, one after another at the front of the memory; or there are none that fit
abbrev pub StoredMatrix : ℕ → List ℕ → ℕ → List ℕ → List ℕ → Option Body → Type 0
StoredMatrix if_none input at before after (Some r) = AllColumns if_none input at before after r.width r.count
StoredMatrix if_none input at before after None =
    ((cs : List (List ℕ)) → columns_in (drop at input) ≡ some cs → fitting cs ≡ true → ⊥) × Spoilt before after
