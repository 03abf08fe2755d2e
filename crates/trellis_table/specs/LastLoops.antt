-- The last row, one iteration of the loop over states at a time.
use Rattle.std.specs.Prelude.{ℕ, ◌+◌, ◌*◌, ◌/◌, ◌<◌, ◌≤◌, ◌≡◌, ◌⊎◌, List, length, get_or, set}
use Rattle.std.proofs.Common.{◌∙◌, inl, inr, arith, get_or-set_same, get_or-set_other}
use Rattle.lists.proofs.OrderLaws.{eq_or_ne}
use Rattle.lists.proofs.OutsideLaws.{outside_none, outside_set, outside_then}
use Rattle.lists.specs.Stored.{Outside}
use Rattle.automaton.specs.Form.{letters_of, ends_of, view}
use Rattle.trellis.proofs.ExtendedLaws.{at_letter}
use Rattle.trellis.specs.Cells.{ending}
use Rattle.trellis.proofs.CellsLaws.{last_cell}
use Rattle.trellis_row.specs.Letters.{states}
use Rattle.trellis_table.specs.Last.{LastFilled}

-- its states below n were written
pub record LastBelow (f before after : List ℕ) (base n : ℕ) : Type 0 where
  pub cells : (s : ℕ) → s < n → get_or after (base + s) 0 ≡ ending (ends_of f ((s + 1) / 2))
  pub outside : Outside base (base + states f) before after

module _ (f before : List ℕ) (base : ℕ) where
  pub last_none : LastBelow f before before base 0
  last_none = record { cells = λ s h. absurd (omega arith); outside = outside_none base (base + states f) before }

  pub last_more :
      (work : List ℕ) (n v : ℕ) → n ≤ 2 * letters_of f → base + n < length work → LastBelow f before work base n → v ≡ ending (ends_of f ((n + 1) / 2))
      → LastBelow f before (set work (base + n) v) base (n + 1)
  last_more work n v high room l e =
      record {
        cells = λ s h. by s h (eq_or_ne s n);
        outside = outside_then l.outside (outside_set base (base + states f) work (base + n) v (omega arith) (omega arith));
      }
    where
      by : (s : ℕ) → s < n + 1 → (s ≡ n) ⊎ (s ≡ n → ⊥) → get_or (set work (base + n) v) (base + s) 0 ≡ ending (ends_of f ((s + 1) / 2))
      by s h (inl q) = rw q (get_or-set_same work (base + n) v 0 room ∙ e)
      by s h (inr d) = get_or-set_other work (base + n) (base + s) v 0 (λ z. d (omega arith)) ∙ l.cells s (omega arith)

  pub last_filled : (after : List ℕ) → LastBelow f before after base (states f) → LastFilled f before after base
  last_filled after l = record { row = λ M t s h. rw (l.cells s (omega arith)) (last_cell (view f) M t ((s + 1) / 2) s (at_letter s)); outside = l.outside }
