-- What storing the whole matrix answers, a lemma for each return of `store_matrix`.
use Rattle.std.specs.Prelude.{◌≡◌, refl, ℕ, ◌+◌, ◌<◌, ◌≤◌, length, drop, leb, Some, None}
use Rattle.std.proofs.Math.Path.{sym, ap}
use Rattle.std.proofs.Common.{◌∙◌, arith, length-drop, leb-true, le-leb}
use Rattle.std.proofs.Math.Option.{some}
use mathlib.Core.List.{List, [], ◌∷◌, ◌++◌, flatten}
use Rattle.std.proofs.Math.Bool.{true}
use Rattle.std.proofs.Math.ListN.{length-append}
use Rattle.std.proofs.lemmas.List.Edits.{sets, sets-eq}
use Rattle.lists.proofs.EachLaws.{drop_all}
use Rattle.lists.proofs.OrderLaws.{and_left, and_right, and_both}
use Rattle.lists.proofs.WrittenLaws.{written_none, stored_then}
use Rattle.lists.specs.Memory.{written}
use Rattle.text_lines.specs.Lines.{both}
use Rattle.sheet_format.specs.Sheet.{equal_columns, fitting}
use Rattle.sheet_format.proofs.ColumnLinesLaws.{columns_in_end, columns_in_some}
use Rattle.sheet_format.specs.ColumnLines.{columns_in}
use Rattle.sheet_columns.specs.Storing.{StoredColumn, StoredColumns, wide}
use Rattle.sheet_columns.specs.Loops.{spoilt_stored, both_back, flatten_more}
use Rattle.sheet_columns.specs.Matrices.{StoredMatrix}

sets_written : (c m : List ℕ) → length c ≤ length m → sets m 0 c ≡ written c m
unfolding written
sets_written c m l = let z : 0 + length c ≡ length c = omega arith in sets-eq c m 0 (omega arith) ∙ ap (λ k. c ++ drop k m) z

module _ (if_none : ℕ) (input : List ℕ) (at : ℕ) (before : List ℕ) where
  pub matrix_none : at ≡ length input → StoredMatrix if_none input at before before (Some (record { width = if_none; count = 0 }))
  unfolding flatten
  matrix_none l =
      record {
        columns = [];
        are = ap columns_in (drop_all input at (omega arith)) ∙ columns_in_end;
        fits = refl;
        is_width = refl;
        is_count = refl;
        memory = sym (written_none before);
      }

  pub matrix_bad :
      (after : List ℕ) → at < length input → StoredColumn input at 0 before after None → StoredMatrix if_none input at before after None
  matrix_bad after l h = (by, h.1)
    where
      by : (cs : List (List ℕ)) → columns_in (drop at input) ≡ some cs → fitting cs ≡ true → ⊥
      by [] e q = columns_in_some (drop at input) (let k = length-drop at input in omega arith) e
      by (c ∷ cs) e q =
          let k = h.0 c cs e in
          let s = flatten_more c (c ∷ cs) cs refl in
          let r = leb-true (length (flatten (c ∷ cs))) 16384 (and_right (equal_columns (c ∷ cs)) (leb (length (flatten (c ∷ cs))) 16384) q) in
          omega arith

  module _ (middle : List ℕ) (e w : ℕ) (h : StoredColumn input at 0 before middle (Some (record { end = e; filled = w }))) where
    first : w ≡ length h.costs
    first = h.stored.next ∙ omega arith

    pub matrix_unequal :
        (after : List ℕ) → StoredColumns w input e w 1 middle after None → StoredMatrix if_none input at before after None
    matrix_unequal after s = (
      (λ cs q t.
          let k = both_back h.costs (columns_in (drop e input)) cs (sym h.is ∙ q) in
          let ds = h.costs ∷ k.0 in
          let u : fitting ds ≡ true = rw k.2 at t in
          let v : wide w k.0 ≡ true = rw first (and_left (equal_columns ds) (leb (length (flatten ds)) 16384) u) in
          let l = s.0 k.0 k.1 v in
          let r = leb-true (length (flatten ds)) 16384 (and_right (equal_columns ds) (leb (length (flatten ds)) 16384) u) in
          let y = flatten_more h.costs ds k.0 refl in
          let z = first in
          omega arith),
      spoilt_stored h.costs 0 w before middle after h.stored h.room s.1,
    )

    pub matrix_is :
        (after : List ℕ) (count : ℕ) → 16384 ≤ length before → StoredColumns w input e w 1 middle after (Some count)
        → StoredMatrix if_none input at before after (Some (record { width = w; count = count }))
    unfolding flatten both
    matrix_is after count l s =
        let z = first in
        let n = s.counted in
        let r = s.room in
        let y = length-append h.costs (flatten s.columns) in
        let t = stored_then h.stored s.stored in
        let u : wide (length h.costs) s.columns ≡ true = rw first at s.equal in
        record {
          columns = h.costs ∷ s.columns;
          are = h.is ∙ ap (both (some h.costs)) s.are;
          fits = and_both (equal_columns (h.costs ∷ s.columns)) (leb (length (flatten (h.costs ∷ s.columns))) 16384) u (le-leb (length (flatten (h.costs ∷ s.columns))) 16384 (omega arith));
          is_width = first;
          is_count = omega arith;
          memory = t.memory ∙ sets_written (h.costs ++ flatten s.columns) before (omega arith);
        }
