-- The steps of the loops that store columns: one cost more, and one column more.
use Rattle.std.specs.Prelude.{◌≡◌, Bool, false, cond, ℕ, suc, ◌+◌, ◌-◌, ◌<◌, ◌≤◌, length, get_or, drop, set, eqb, Option as Answer, Some, None}
use Rattle.std.proofs.Math.Path.{refl, ap}
use Rattle.std.proofs.Common.{sym, ◌∙◌, arith, add-one, length-drop, drop-set-lt}
use Rattle.std.proofs.Math.Option.{Option, some, none}
use mathlib.Core.List.{List, [], ◌∷◌, flatten}
use Rattle.std.proofs.Math.Bool.{true}
use Rattle.std.proofs.Math.ListN.{length-append}
use Rattle.std.proofs.lemmas.List.Edits.{sets}
use borrow.Author.Tests.{eq-eqb, ne_eqb, eqb-true}
use Rattle.lists.proofs.EachLaws.{drop_all}
use Rattle.lists.proofs.OrderLaws.{and_left, and_right, and_both}
use Rattle.lists.proofs.WrittenLaws.{stored_size, stored_then}
use Rattle.lists.specs.Stored.{Stored}
use Rattle.text_lines.specs.Lines.{both}
use Rattle.sheet_format.proofs.ColumnLinesLaws.{columns_in_end, columns_in_some, beside, put}
use Rattle.sheet_format.specs.ColumnLines.{columns_in}
use Rattle.sheet_number.specs.Items.{ReadCost}
use Rattle.sheet_number.specs.CostsLaws.{cost_begins}
use Rattle.sheet_columns.specs.declared.Column.{Column}
use Rattle.sheet_columns.specs.RestsLaws.{cost_columns, no_column}
use Rattle.sheet_columns.specs.Storing.{Spoilt, StoredColumn, wide, StoredColumns}

drop_sets : (n : ℕ) (c m : List ℕ) (i : ℕ) → i + length c ≤ n → drop n (sets m i c) ≡ drop n m
drop_sets n [] m i l = refl
drop_sets n (v ∷ c) m i l = drop_sets n c (set m i v) (suc i) (omega arith) ∙ drop-set-lt n m i v (omega arith)

pub spoilt_none : (m : List ℕ) → Spoilt m m
spoilt_none m = record { size = refl; beyond = refl }

-- what was stored before place 16,384 is spoilt too
pub spoilt_stored :
    (c : List ℕ) (n f : ℕ) (before middle after : List ℕ) → Stored c n before middle f → f ≤ 16384 → Spoilt middle after → Spoilt before after
spoilt_stored c n f before middle after s l h =
    let e = s.next in
    record {
      size = h.size ∙ stored_size s;
      beyond = h.beyond ∙ ap (drop 16384) s.memory ∙ drop_sets 16384 c before n (omega arith);
    }

beside_some : (v : ℕ) (c : List ℕ) (o : Option (List (List ℕ))) → beside (some v) (both (some c) o) ≡ both (some (v ∷ c)) o
unfolding beside both
beside_some v c none = refl
beside_some v c (some cs) = refl

beside_back :
    (v : ℕ) (o : Option (List (List ℕ))) (c : List ℕ) (cs : List (List ℕ)) → beside (some v) o ≡ some (c ∷ cs)
    → (d : List ℕ) × (o ≡ some (d ∷ cs)) × (c ≡ v ∷ d)
unfolding beside
beside_back v none c cs e = let z : ◌≡◌ {A = ℕ} 0 1 = cc in absurd (omega arith)
beside_back v (some []) c cs e = let z : ◌≡◌ {A = ℕ} 0 1 = cc in absurd (omega arith)
beside_back v (some (d ∷ ds)) c cs e = let q : ds ≡ cs = cc in (d, ap (λ x. some (d ∷ x)) q, cc)

put_space : (x : Option ℕ) (b : ℕ) (o : Option (List (List ℕ))) → (b ≡ 10 → ⊥) → put x b o ≡ beside x o
put_space x b o n = rw (ne_eqb b 10 n)

put_newline : (v b : ℕ) (o : Option (List (List ℕ))) → b ≡ 10 → put (some v) b o ≡ both (some (v ∷ [])) o
unfolding both
put_newline v b o e = rw (eq-eqb b 10 e)

-- a column that begins with a cost is not empty
put_some :
    (v b : ℕ) (o : Option (List (List ℕ))) (c : List ℕ) (cs : List (List ℕ)) → put (some v) b o ≡ some (c ∷ cs) → 0 < length c
unfolding both beside
put_some v b o c cs = by (eqb b 10) o
  where
    by :
        (t : Bool) (o : Option (List (List ℕ))) → cond t (both (both (some v) (some [])) o) (beside (some v) o) ≡ some (c ∷ cs) → 0 < length c
    by true none e = let z : ◌≡◌ {A = ℕ} 0 1 = cc in absurd (omega arith)
    by true (some ds) e = let q : c ≡ v ∷ [] = cc in let l = ap length q in omega arith
    by false none e = let z : ◌≡◌ {A = ℕ} 0 1 = cc in absurd (omega arith)
    by false (some []) e = let z : ◌≡◌ {A = ℕ} 0 1 = cc in absurd (omega arith)
    by false (some (d ∷ ds)) e = let q : c ≡ v ∷ d = cc in let l = ap length q in omega arith

module _ (input : List ℕ) (at m : ℕ) (before : List ℕ) where
  pub column_bad : ReadCost input at None → StoredColumn input at m before before None
  column_bad n = (λ c cs e. absurd (no_column input at n c cs e), spoilt_none before)

  module _ (v e : ℕ) (h : ReadCost input at (Some (record { value = v; end = e }))) where
    begins : columns_in (drop at input) ≡ put (some v) (get_or input e 0) (columns_in (drop (e + 1) input))
    begins = cost_columns input at v e h

    pub column_full : m ≡ 16384 → StoredColumn input at m before before None
    column_full l = (
      (λ c cs q. let n = put_some v (get_or input e 0) (columns_in (drop (e + 1) input)) c cs (sym begins ∙ q) in omega arith),
      spoilt_none before,
    )

    pub column_last : m < 16384 → get_or input e 0 ≡ 10 → StoredColumn input at m before (set before m v) (Some (record { end = e + 1; filled = m + 1 }))
    column_last l b =
        let s = cost_begins input at e v h in
        let k = h.within in
        record {
          costs = v ∷ [];
          is = begins ∙ put_newline v (get_or input e 0) (columns_in (drop (e + 1) input)) b;
          stored = record { next = refl; memory = refl };
          from = omega arith;
          within = omega arith;
          some_cost = omega arith;
          room = omega arith;
        }

    pub column_more :
        (after : List ℕ) (r : Answer Column) → m < 16384 → (get_or input e 0 ≡ 10 → ⊥) → StoredColumn input (e + 1) (m + 1) (set before m v) after r
        → StoredColumn input at m before after r
    column_more after (Some r) room b s =
        let l = cost_begins input at e v h in
        let k = s.from in
        let o = s.some_cost in
        let size = s.stored.next in
        record {
          costs = v ∷ s.costs;
          is =
              begins
              ∙ put_space (some v) (get_or input e 0) (columns_in (drop (e + 1) input)) b
              ∙ ap (beside (some v)) s.is
              ∙ beside_some v s.costs (columns_in (drop r.end input));
          stored = record { next = omega arith; memory = s.stored.memory ∙ ap (λ k. sets (set before m v) k s.costs) (add-one m) };
          from = omega arith;
          within = s.within;
          some_cost = omega arith;
          room = s.room;
        }
    column_more after None room b s = (
      (λ c cs q.
          let o = columns_in (drop (e + 1) input) in
          let k = beside_back v o c cs (sym (put_space (some v) (get_or input e 0) o b) ∙ sym begins ∙ q) in
          let l = s.0 k.0 cs k.1 in
          let n = ap length k.2 in
          omega arith),
      spoilt_stored (v ∷ []) m (m + 1) before (set before m v) after (record { next = refl; memory = refl }) (omega arith) s.1,
    )

-- the columns are the first and those after it
pub both_back :
    (c : List ℕ) (o : Option (List (List ℕ))) (cs : List (List ℕ)) → both (some c) o ≡ some cs
    → (ds : List (List ℕ)) × (o ≡ some ds) × (cs ≡ c ∷ ds)
unfolding both
both_back c none cs e = let z : ◌≡◌ {A = ℕ} 0 1 = cc in absurd (omega arith)
both_back c (some ds) cs e = (ds, refl, cc)

pub flatten_more : (c : List ℕ) (cs ds : List (List ℕ)) → cs ≡ c ∷ ds → length (flatten cs) ≡ length c + length (flatten ds)
unfolding flatten
flatten_more c cs ds e = ap (λ x. length (flatten x)) e ∙ length-append c (flatten ds)

module _ (w : ℕ) (input : List ℕ) (at m n : ℕ) (before : List ℕ) where
  pub columns_end : length input ≤ at → m ≤ 16384 → StoredColumns w input at m n before before (Some n)
  unfolding flatten
  columns_end l k =
      record {
        columns = [];
        are = ap columns_in (drop_all input at l) ∙ columns_in_end;
        equal = refl;
        counted = omega arith;
        stored = record { next = refl; memory = refl };
        room = omega arith;
      }

  pub columns_bad :
      (after : List ℕ) → at < length input → StoredColumn input at m before after None → StoredColumns w input at m n before after None
  columns_bad after l h = (λ cs e q. by cs e, h.1)
    where
      by : (cs : List (List ℕ)) → columns_in (drop at input) ≡ some cs → 16384 < m + length (flatten cs)
      by [] e = absurd (columns_in_some (drop at input) (let k = length-drop at input in omega arith) e)
      by (c ∷ cs) e = let k = h.0 c cs e in let s = flatten_more c (c ∷ cs) cs refl in omega arith

  module _ (middle : List ℕ) (e f : ℕ) (h : StoredColumn input at m before middle (Some (record { end = e; filled = f }))) where
    size : f ≡ m + length h.costs
    size = h.stored.next

    pub columns_unequal : (f - m ≡ w → ⊥) → StoredColumns w input at m n before middle None
    columns_unequal d = (
      (λ cs q t.
          let k = both_back h.costs (columns_in (drop e input)) cs (sym h.is ∙ q) in
          let u : wide w (h.costs ∷ k.0) ≡ true = rw k.2 at t in
          let v = eqb-true (length h.costs) w (and_left (eqb (length h.costs) w) (wide w k.0) u) in
          let s = size in
          absurd (d (omega arith))),
      spoilt_stored h.costs m f before middle middle h.stored h.room (spoilt_none middle),
    )

    pub columns_more :
        (after : List ℕ) (r : Answer ℕ) → f - m ≡ w → StoredColumns w input e f (n + 1) middle after r
        → StoredColumns w input at m n before after r
    unfolding flatten both
    columns_more after (Some count) d s =
        let z = size in
        let k = s.counted in
        let r = s.room in
        let l = length-append h.costs (flatten s.columns) in
        let t = stored_then h.stored s.stored in
        record {
          columns = h.costs ∷ s.columns;
          are = h.is ∙ ap (both (some h.costs)) s.are;
          equal = and_both (eqb (length h.costs) w) (wide w s.columns) (eq-eqb (length h.costs) w (omega arith)) s.equal;
          counted = omega arith;
          stored = record { next = refl; memory = t.memory };
          room = omega arith;
        }
    columns_more after None d s = (
      (λ cs q t.
          let k = both_back h.costs (columns_in (drop e input)) cs (sym h.is ∙ q) in
          let u : wide w (h.costs ∷ k.0) ≡ true = rw k.2 at t in
          let l = s.0 k.0 k.1 (and_right (eqb (length h.costs) w) (wide w k.0) u) in
          let z = size in
          let y = flatten_more h.costs cs k.0 k.2 in
          omega arith),
      spoilt_stored h.costs m f before middle after h.stored h.room s.1,
    )
