-- Laws of one column of the trace: kept states that are low enough have the lowest label of all, and the states of that label.
use Rattle.std.specs.Prelude.{ℕ, ◌*◌, ◌-◌, ◌≤◌, ◌<◌, ◌≡◌, refl, Bool, List, ◌⊎◌, Option, Some, None, IsSome, MatchOption, get_or}
use Rattle.std.proofs.Common.{sym, ap, inl, inr, arith}
use Rattle.lists.proofs.OrderLaws.{lt_or_le}
use Rattle.lists.specs.Least.{Least}
use Rattle.lists.specs.Marks.{Has, Marks, Listed}
use Rattle.automaton.specs.Form.{letters_of, alphabet_of, view}
use Rattle.automaton.proofs.ValidLaws.{valid_proper}
use Rattle.trellis.proofs.ExtendedLaws.{step_within}
use Rattle.trellis.specs.Reached.{entering}
use Rattle.trellis_steps.specs.Loops.{entering_high}
use Rattle.trellis_members.specs.Members.{Members, IsEmpty}
use Rattle.trellis_members.specs.MembersLaws.{listed_has, only_marked}
use Rattle.trellis_steps.specs.Steps.{ColumnReady, KeptOf, Within}
use Rattle.trellis_column.specs.Column.{NONE, Blanks, LowEnough, LabelIn, Lowest, OfLabel, SomeKept, Taken}
use Rattle.trellis_column.specs.BlanksLaws.{blanks_kept, kept_blanks}

-- Kept states, all those of the lowest label among them.

module _ (f column row : List ℕ) (v : ℕ) (In : ℕ → Type 0) {set near : List Bool} (empty : IsEmpty set) where
  -- the blanks, if there are any
  pub lowest_blanks :
      ColumnReady f column row v → Within f In → Marks (Blanks column row v In) set near → (u : ℕ) × Has near u
      → LowEnough (view f) column row v In near
  lowest_blanks z w k some =
      let p = valid_proper f z.valid in
      let only : (u : ℕ) → Has near u → OfLabel (view f) 0 (KeptOf (view f) column row v In) u =
      λ u i. blanks_kept p column row v In w u (only_marked (Blanks column row v In) empty k u i) in
      record {
        hit = λ u i. (only u i).0;
        some = some;
        low = λ u x q i l. let o = (only x i).1 in k.marked u (kept_blanks p column row v In w u q (omega arith));
      }

  -- all kept states
  pub lowest_all :
      SomeKept (view f) column row v In → Marks (KeptOf (view f) column row v In) set near → LowEnough (view f) column row v In near
  lowest_all some k =
      record {
        hit = only_marked (KeptOf (view f) column row v In) empty k;
        some = (some.0, k.marked some.0 some.1);
        low = λ u x q i l. k.marked u q;
      }

-- The column as a whole: kept states, all those of the lowest label among them.

pub record Nearby (f column row : List ℕ) (v : ℕ) (In : ℕ → Type 0) (near : List Bool) : Type 0 where
  pub sized : ColumnReady f column row v
  pub within : Within f In
  pub enough : LowEnough (view f) column row v In near

module _ (f column row : List ℕ) (v : ℕ) {set : List Bool} {list : List ℕ} {n : ℕ} (from : Members set list n) where
  listed_kept : (u : ℕ) → KeptOf (view f) column row v (Has set) u → KeptOf (view f) column row v (Listed list n) u
  listed_kept u ((s, i, o), k) = ((s, from.all s i, o), k)

  pub listed_some : SomeKept (view f) column row v (Has set) → SomeKept (view f) column row v (Listed list n)
  listed_some (u, k) = (u, listed_kept u k)

  pub listed_within : Within f (Has set) → Within f (Listed list n)
  listed_within w s i = w s (listed_has from s i)

  pub nearby :
      {near : List Bool} → ColumnReady f column row v → Within f (Has set) → LowEnough (view f) column row v (Listed list n) near
      → Nearby f column row v (Has set) near
  nearby z w e =
      record {
        sized = z;
        within = w;
        enough =
            record {
              hit = λ u h. let q = e.hit u h in ((q.0.0, listed_has from q.0.0 q.0.1, q.0.2), q.1);
              some = e.some;
              low = λ u x q. e.low u x (listed_kept u q);
            };
      }

module _ {f column row : List ℕ} {v : ℕ} {In : ℕ → Type 0} {near : List Bool} (nearby : Nearby f column row v In near) where
  near_high : (u : ℕ) → Has near u → u ≤ 2 * letters_of f
  near_high u h =
      let r = (nearby.enough.hit u h).0 in
      step_within (valid_proper f nearby.sized.valid) r.0 (entering (view f) u) u r.2 (nearby.within r.0 r.1)

  -- the states near are states of the form
  pub near_within : Within f (Has near)
  near_within = near_high

  near_label : (u : ℕ) → Has near u → entering (view f) u ≤ alphabet_of f
  near_label u h = entering_high f nearby.sized.valid u (near_high u h)

  -- the lowest label is below NONE
  pub least_lowest : {x : ℕ} → Least NONE (LabelIn (view f) (Has near)) x → Lowest (LabelIn (view f) (Has near)) x
  least_lowest least =
      let some = nearby.enough.some in
      let high = near_label some.0 some.1 in
      let few = nearby.sized.valid.head.alphabet_high in
      let l = least.least (entering (view f) some.0) (some.0, some.1, refl) in
      (least.met (omega arith), least.least)

  -- there is a lowest label
  pub some_lowest :
      (o : Option ℕ) → MatchOption o (IsEmpty near) (Lowest (LabelIn (view f) (Has near))) → IsSome o
  some_lowest None e = let some = nearby.enough.some in absurd (e some.0 some.1)
  some_lowest (Some x) e = refl

  module _ {x : ℕ} (least : Lowest (LabelIn (view f) (Has near)) x) where
    least_label : (u : ℕ) → Has near u → x ≤ entering (view f) u
    least_label u h = least.1 (entering (view f) u) (u, h, refl)

    -- some state has the lowest label
    found : LabelIn (view f) (Has near) x
    found = least.0

    pub lowest_label : x ≤ alphabet_of f
    lowest_label = let o = found in let high = near_label o.0 o.1 in let e = o.2 in omega arith

    -- and its cost is at most the price
    pub lowest_paid : get_or column x 0 ≤ v
    lowest_paid =
        let o = found in
        let k = (nearby.enough.hit o.0 o.1).1 in
        let e : get_or column x 0 ≡ get_or column (entering (view f) o.0) 0 = ap (λ y. get_or column y 0) o.2 in
        let b = nearby.sized.below in
        omega arith

    -- a kept state of the lowest label, or of a lower one, is near
    kept_near : (u : ℕ) → KeptOf (view f) column row v In u → entering (view f) u ≤ x → Has near u
    kept_near u k h = let o = found in let e = o.2 in nearby.enough.low u o.0 k o.1 (omega arith)

    kept_high : (u : ℕ) → KeptOf (view f) column row v In u → x ≤ entering (view f) u
    kept_high u k = by (lt_or_le (entering (view f) u) x)
      where
        by : (entering (view f) u < x) ⊎ (x ≤ entering (view f) u) → x ≤ entering (view f) u
        by (inl l) = least_label u (kept_near u k (omega arith))
        by (inr h) = h

    pub taken :
        {set next : List Bool} → IsEmpty set → Marks (OfLabel (view f) x (Has near)) set next
        → Taken (view f) column row v In x (v - get_or column x 0) (Has next)
    taken empty m =
        record {
          lowest = kept_high;
          one = found.0;
          kept = nearby.enough.hit found.0 found.1;
          by_label = sym found.2;
          hit = λ u h. let o = only_marked (OfLabel (view f) x (Has near)) empty m u h in (nearby.enough.hit u o.0, o.1);
          all = λ u k e. m.marked u (kept_near u k (omega arith), e);
          paid = refl;
        }
