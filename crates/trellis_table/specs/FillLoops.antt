-- The table, one iteration of the loop over rows at a time.
use Rattle.std.specs.Prelude.{ℕ, ◌+◌, ◌*◌, ◌-◌, ◌<◌, ◌≤◌, ◌≡◌, ◌⊎◌, List, length, get_or, take, drop}
use Rattle.std.proofs.Common.{sym, ap, subst, ◌∙◌, inl, inr, arith, mul-le-mul_right}
use Rattle.lists.proofs.OrderLaws.{eq_or_ne}
use Rattle.lists.proofs.PartLaws.{part_at, part_length}
use Rattle.lists.proofs.OutsideLaws.{outside_none, outside_then, outside_wider, beyond_at}
use Rattle.matrix.specs.Matrix.{Matrix, ColumnOf}
use Rattle.automaton.specs.Form.{alphabet_of, view}
use Rattle.automaton.specs.Valid.{Valid}
use Rattle.trellis.specs.Table.{Row}
use Rattle.trellis_row.specs.Letters.{states}
use Rattle.trellis_row.specs.Rows.{RowFilled}
use Rattle.trellis_row.specs.RowsLaws.{row_next}
use Rattle.trellis_table.specs.Last.{LastFilled}
use Rattle.trellis_table.specs.Fill.{Sized, RowsFilled, Filled}

module _ {f : List ℕ} (M : Matrix) (before : List ℕ) (stride : ℕ) where
  -- the last row is written
  pub rows_last : Row (view f) M before (M.count * stride) M.count 0 → RowsFilled f M before before stride M.count
  rows_last r =
      record {
        rows = λ u n h e. let p : u ≡ M.count = omega arith in let q : n ≡ 0 = omega arith in rw (p, q) r;
        outside = outside_none 0 ((M.count + 1) * stride) before;
      }

  module _ (valid : Valid f) (sized : Sized f M before stride) (t : ℕ) (few : t < M.count) where
    -- the costs of column t, and its row and the next, are inside their lists
    pub column_inside : t * M.width + M.width ≤ length M.costs
    column_inside = let a = mul-le-mul_right {m = t + 1} {n = M.count} M.width (omega arith) in let s = sized.size in omega arith

    pub row_inside : t * stride + stride + stride ≤ length before
    row_inside = let a = mul-le-mul_right {m = t + 2} {n = M.count + 1} stride (omega arith) in let r = sized.room in omega arith

    -- column t as a list of its own
    module _ (a e : ℕ) (at : a ≡ t * M.width) (end : e ≡ a + M.width) where
      abbrev column : List ℕ
      column = take (e - a) (drop a M.costs)

      pub column_wide : alphabet_of f < length column
      column_wide = let c = column_inside in let w = sized.width in let l = part_length M.costs a e (omega arith) in omega arith

      pub column_of : ColumnOf (alphabet_of f) M t column
      column_of x h = let w = sized.width in sym (part_at M.costs a e 0 x (omega arith) ∙ ap (λ n. get_or M.costs (n + x) 0) at)

    module _ (work : List ℕ) (done : RowsFilled f M before work stride (t + 1)) where
      next_row : (n : ℕ) → t + (n + 1) ≡ M.count → Row (view f) M work (t * stride + stride) (t + 1) n
      next_row n e = let p : (t + 1) * stride ≡ t * stride + stride = omega arith in rw p at (done.rows (t + 1) n (omega arith) (omega arith))

      -- one more row
      pub rows_more :
          (column after : List ℕ) → ColumnOf (alphabet_of f) M t column → RowFilled f column work after (t * stride) (t * stride + stride)
          → RowsFilled f M before after stride t
      rows_more column after costs r =
          record {
            rows = λ u n h e. by u n h e (eq_or_ne u t);
            outside = outside_then done.outside (outside_wider 0 ((M.count + 1) * stride) (omega arith) end r.outside);
          }
        where
          wide : states f ≤ stride
          wide = sized.row

          end : t * stride + states f ≤ (M.count + 1) * stride
          end = let a = mul-le-mul_right {m = t + 1} {n = M.count + 1} stride (omega arith) in omega arith

          by : (u n : ℕ) → t ≤ u → u + n ≡ M.count → (u ≡ t) ⊎ (u ≡ t → ⊥) → Row (view f) M after (u * stride) u n
          by u n h e (inl q) =
              let m : n - 1 + 1 ≡ n = omega arith in
              rw q (subst (Row (view f) M after (t * stride) t) m (row_next valid r M t (n - 1) costs (next_row (n - 1) (omega arith))))
          by u n h e (inr d) =
              let a = mul-le-mul_right {m = t + 1} {n = u} stride (omega arith) in
              λ s k. rw (beyond_at 0 (u * stride + s) r.outside (omega arith)) (done.rows u n (omega arith) e s k)

-- the last row was written, and then the others
pub filled :
    {f : List ℕ} (M : Matrix) (before work after : List ℕ) → LastFilled f before work (M.count * states f) → RowsFilled f M work after (states f) 0
    → Filled f M before after (get_or after 0 0)
filled {f} M before work after last l =
    record {
      table = λ t n e. let p : 0 + t * states f ≡ t * states f = omega arith in rw p (l.rows t n (omega arith) e);
      beyond =
          l.outside.beyond
          ∙ (outside_wider 0 ((M.count + 1) * states f) (omega arith) (omega arith) last.outside).beyond;
      price = let p : 0 * states f + 0 ≡ 0 = omega arith in rw p at (l.rows 0 M.count (omega arith) (omega arith) 0 (omega arith));
    }
