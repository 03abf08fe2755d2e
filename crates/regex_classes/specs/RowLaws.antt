-- Laws of names, rows and ranges, one at a time: a search that goes through the rows, a name against a list of bytes, a byte in the ranges
-- from one of them on. The code's chains need none of them; they say the same of the table as loops would.
use Rattle.std.specs.Prelude.{◌≡◌, List, [], ◌∷◌, Bool, true, false, ◌||◌, ℕ, zero, suc, ◌+◌, ◌≤◌, ◌<◌, length, take, drop, get_or, map, Some, None}
use Rattle.std.specs.List.{list_any}
use Rattle.std.proofs.Math.Path.{refl, ap}
use Rattle.std.proofs.Common.{sym, ◌∙◌, arith, le_of_suc-le-suc, get_or-take, length-take-le, take_all}
use Rattle.std.proofs.Math.Option.{Option, some, none}
use Rattle.std.proofs.lemmas.List.{length-map}
use Rattle.std.proofs.Math.ListN.{get_or-map}
use Rattle.lists.proofs.EachLaws.{drop_here, drop_all}
use Rattle.lists.proofs.OrderLaws.{and_left, and_right}
use Rattle.lists.proofs.SameLaws.{same_list_length, same_list_here, same_list_not, same_list_end}
use Rattle.lists.specs.Lists.{same_list}
use Rattle.regex_tree.specs.Tree.{Range, within, among}
use Rattle.regex_tree.specs.Classes.{classes, look_up, class_ranges}
use Rattle.regex_classes.specs.declared.table.Span.{Span}
use Rattle.regex_classes.specs.declared.table.Class.{Class}
use Rattle.regex_classes.specs.Table.{as_range, class_among, Row, is_row, agrees, Looked}
use Rattle.regex_classes.specs.TableLaws.{row_tested}

-- the ranges of a row, and the one of an index
abbrev pub ranges_in : Class → List Range
ranges_in c = map as_range c.ranges.now

abbrev pub range_at : Class → ℕ → Range
range_at c j = as_range (get_or c.ranges.now j (record { 0 = 0; 1 = 0 }))

-- a byte is in the row exactly if it is among its ranges
pub class_is_among : (c : Class) (b : ℕ) → class_among c b ≡ among (ranges_in c) b
class_is_among c b = by c.ranges.now
  where
    by : (ss : List Span) → list_any (λ s. within (as_range s) b) ss ≡ among (map as_range ss) b
    by [] = refl
    by (s ∷ ss) = rw (by ss)

-- the row of an index
abbrev nothing : List ℕ × List Range
nothing = ([], [])

row_at :
    (default : Class) (table : List Class) (ds : List (List ℕ × List Range)) → agrees table ds ≡ true → (k : ℕ) → k < length ds →
    Row (get_or ds k nothing).0 (get_or ds k nothing).1 (get_or table k default)
unfolding agrees
row_at default [] [] e k l = absurd (omega arith)
row_at default [] (d ∷ ds) e k l = let z : ◌≡◌ {A = ℕ} 0 1 = cc in absurd (omega arith)
row_at default (c ∷ cs) [] e k l = absurd (omega arith)
row_at default (c ∷ cs) (d ∷ ds) e zero l = row_tested d c (and_left (is_row d c) (agrees cs ds) e)
row_at default (c ∷ cs) (d ∷ ds) e (suc k) l = row_at default cs ds (and_right (is_row d c) (agrees cs ds) e) k (le_of_suc-le-suc l)

twelve : length classes ≡ 12
unfolding classes
twelve = refl

-- The search for a name: what the classes from row k on give.
module _ (name : List ℕ) where
  unfoldable pub sought : ℕ → Option (List Range)
  sought k = look_up (drop k classes) name

  pub sought_all : sought 0 ≡ class_ranges name
  unfolding sought class_ranges
  sought_all = refl

  sought_end : (k : ℕ) → 12 ≤ k → sought k ≡ none
  unfolding sought look_up
  sought_end k l = let n = twelve in rw (drop_all classes k (omega arith), look_up)

  module _ (default : Class) (table : List Class) (agree : agrees table classes ≡ true) (k : ℕ) (l : k < 12) where
    abbrev here : Class
    here = get_or table k default

    pub row_here : Row (get_or classes k nothing).0 (get_or classes k nothing).1 here
    row_here = let n = twelve in row_at default table classes agree k (omega arith)

    sought_row : sought k ≡ elim (same_list here.name.now name) [ true ↦ some (get_or classes k nothing).1 | false ↦ sought (k + 1) ]
    unfolding sought look_up
    sought_row =
        let n = twelve in
        ap (λ cs. look_up cs name) (drop_here nothing classes k (omega arith)) ∙ rw row_here.spells

    pub sought_past : same_list here.name.now name ≡ false → sought k ≡ sought (k + 1)
    sought_past e = sought_row ∙ rw e

    pub sought_here : (x : Option (List Range)) → sought k ≡ x → same_list here.name.now name ≡ true → Looked x (Some here)
    sought_here x i e =
        let r = row_here in
        let q : x ≡ some (get_or classes k nothing).1 = sym i ∙ sought_row ∙ rw e in
        rw q (record { known = refl; has = r.has })

  -- nothing is found for a name that no row has
  pub sought_none : (x : Option (List Range)) (k : ℕ) → sought k ≡ x → 12 ≤ k → Looked x None
  sought_none x k i l = rw (sym i ∙ sought_end k l) (record { known = refl; has = λ b l. refl })

-- A name against a list of bytes, one byte at a time.
module _ (array name : List ℕ) (fits : length name ≤ length array) where
  abbrev same_from : ℕ → Bool
  same_from i = same_list (drop i (take (length name) array)) (drop i name)

  taken : length (take (length name) array) ≡ length name
  taken = length-take-le (length name) array fits

  module _ (i : ℕ) where
    pub byte_same : i < length name → get_or array i 0 ≡ get_or name i 0 → same_from i ≡ same_from (i + 1)
    byte_same l e = let n = taken in same_list_here (take (length name) array) name i (omega arith) l (get_or-take (length name) array i 0 l ∙ e)

    pub byte_other : i < length name → (get_or array i 0 ≡ get_or name i 0 → ⊥) → same_from i ≡ false
    byte_other l e =
        let n = taken in same_list_not (take (length name) array) name i (omega arith) l (λ q. e (sym (get_or-take (length name) array i 0 l) ∙ q))

    pub bytes_end : length name ≤ i → same_from i ≡ true
    bytes_end l = let n = taken in same_list_end (take (length name) array) name i (omega arith) l

module _ (c : Class) where
  pub name_fits : (name : List ℕ) → length name ≡ length c.name.now → length name ≤ length c.name.now
  name_fits name e = omega arith

  pub name_sized : (name : List ℕ) → length name ≡ length c.name.now → same_list (take (length name) c.name.now) name ≡ same_list c.name.now name
  name_sized name e = rw (e, take_all (length c.name.now) c.name.now (omega arith))

  pub other_length : (name : List ℕ) → (length name ≡ length c.name.now → ⊥) → same_list c.name.now name ≡ false
  other_length name h = same_list_length c.name.now name (λ e. h (sym e))

  -- its ranges, one at a time
  ranges_length : length (ranges_in c) ≡ length c.ranges.now
  ranges_length = length-map c.ranges.now as_range

  module _ (b j : ℕ) where
    from_range : j < length c.ranges.now → among (drop j (ranges_in c)) b ≡ (within (range_at c j) b || among (drop (j + 1) (ranges_in c)) b)
    from_range l =
        let n = ranges_length in
        let at_j : get_or (ranges_in c) j (as_range (record { 0 = 0; 1 = 0 })) ≡ range_at c j = get_or-map as_range c.ranges.now j (record { 0 = 0; 1 = 0 }) in
        ap (λ rs. among rs b) (drop_here (as_range (record { 0 = 0; 1 = 0 })) (ranges_in c) j (omega arith)) ∙ rw at_j

    pub in_range_here : j < length c.ranges.now → within (range_at c j) b ≡ true → among (drop j (ranges_in c)) b ≡ true
    in_range_here l e = from_range l ∙ rw e

    pub in_range_past : j < length c.ranges.now → within (range_at c j) b ≡ false → among (drop j (ranges_in c)) b ≡ among (drop (j + 1) (ranges_in c)) b
    in_range_past l e = from_range l ∙ rw e

    pub in_range_end : length c.ranges.now ≤ j → among (drop j (ranges_in c)) b ≡ false
    in_range_end l = let n = ranges_length in rw (drop_all (ranges_in c) j (omega arith))
