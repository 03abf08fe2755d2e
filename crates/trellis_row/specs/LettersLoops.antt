-- The cells of a row, one iteration of the loop over letters at a time.
use Rattle.std.specs.Prelude.{ℕ, ◌+◌, ◌*◌, ◌-◌, ◌/◌, ◌<◌, ◌≤◌, min, ◌≡◌, ◌⊎◌, List, length, get_or, set}
use Rattle.std.proofs.Common.{sym, ap, subst, ◌∙◌, inl, inr, arith, length-set, get_or-set_same, get_or-set_other}
use Rattle.lists.proofs.OrderLaws.{eq_or_ne}
use Rattle.lists.proofs.OutsideLaws.{outside_none, outside_set, outside_then, outside_wider, front_at, beyond_at}
use Rattle.automaton.specs.Form.{letters_of, label_of}
use Rattle.trellis_offers.specs.Offers.{key_of, LeastKey, LeastOther}
use Rattle.trellis_row.specs.Letters.{states, LetterReady, LetterCells, LetterFilled, LettersReady, CellsAt, LettersFilled}

pub letter_filled :
    (f ks : List ℕ) (blank : ℕ) (work : List ℕ) (p q i least other : ℕ) → 1 ≤ p → p < length work → LeastKey f ks i least → LeastOther f ks i (label_of f i) other
    → (on blanks rest : ℕ) → rest ≡ blank + get_or work q 0 → on ≡ min (min (key_of ks i) other / 256) rest → blanks ≡ min (least / 256) rest
    → LetterFilled f ks blank work (set (set work (p - 1) on) p blanks) p q i least
letter_filled f ks blank work p q i least other low room all others on blanks rest r o b =
    record {
      cells =
          rw (on_at, blanks_at)
          (record {
            along_all = all;
            other = other;
            along_other = others;
            on_is = o ∙ ap (min (min (key_of ks i) other / 256)) r;
            blanks_is = b ∙ ap (min (least / 256)) r;
          });
      outside =
          outside_then (outside_set (p - 1) (p + 1) work (p - 1) on (omega arith) (omega arith))
          (outside_set (p - 1) (p + 1) (set work (p - 1) on) p blanks (omega arith) (omega arith));
    }
  where
    on_at : get_or (set (set work (p - 1) on) p blanks) (p - 1) 0 ≡ on
    on_at = get_or-set_other (set work (p - 1) on) p (p - 1) blanks 0 (λ e. omega arith) ∙ get_or-set_same work (p - 1) on 0 (omega arith)

    blanks_at : get_or (set (set work (p - 1) on) p blanks) p 0 ≡ blanks
    blanks_at = get_or-set_same (set work (p - 1) on) p blanks 0 (simp length-set room)

-- what the states of letter i are computed from, if its blanks are at here + 2i
pub letter_ready :
    {f ks work : List ℕ} {here stride first : ℕ} → LettersReady f ks work here stride first
    → (after : List ℕ) (p i least : ℕ) → length after ≡ length work → p ≡ here + 2 * i → 1 ≤ i → i ≤ letters_of f → LeastKey f ks (i - 1) least
    → LetterReady f ks after p stride i least
letter_ready r after p i least size at low high before =
    record { first = low; last = high; before = before; low = omega arith; room = let m = r.room in omega arith }

module _ (f ks : List ℕ) (blank : ℕ) (before : List ℕ) (here next : ℕ) (apart : here + 2 * letters_of f < next) where
  pub letters_none : LettersFilled f ks blank before before here next 1
  letters_none = record { cells = λ i l h. absurd (omega arith); outside = outside_none (here + 1) (here + states f) before }

  pub letters_more :
      (work after : List ℕ) (q n least : ℕ) → q ≡ next + 2 * n → 1 ≤ n → n ≤ letters_of f
      → LettersFilled f ks blank before work here next n → LetterFilled f ks blank work after (here + 2 * n) q n least
      → LettersFilled f ks blank before after here next (n + 1)
  letters_more work after q n least there low high l m =
      record {
        cells = λ i a b. by i a b (eq_or_ne i n);
        outside = outside_then l.outside (outside_wider (here + 1) (here + states f) (omega arith) (omega arith) m.outside);
      }
    where
      -- the row of the next column is as it was
      kept : get_or work q 0 ≡ get_or before (next + 2 * n) 0
      kept = beyond_at 0 q l.outside (omega arith) ∙ ap (λ k. get_or before k 0) there

      on_at : here + 2 * n - 1 ≡ here + (2 * n - 1)
      on_at = omega arith

      new : CellsAt f ks blank before after here next n
      new = (
        least,
        subst (λ k. LetterCells f ks (blank + get_or before (next + 2 * n) 0) n least (get_or after k 0) (get_or after (here + 2 * n) 0)) on_at
            (subst (λ v. LetterCells f ks (blank + v) n least (get_or after (here + 2 * n - 1) 0) (get_or after (here + 2 * n) 0)) kept m.cells),
      )

      by : (i : ℕ) → 1 ≤ i → i < n + 1 → (i ≡ n) ⊎ (i ≡ n → ⊥) → CellsAt f ks blank before after here next i
      by i a b (inl e) = subst (CellsAt f ks blank before after here next) (sym e) new
      by i a b (inr d) =
          rw (front_at 0 (here + (2 * i - 1)) m.outside (omega arith), front_at 0 (here + 2 * i) m.outside (omega arith)) (l.cells i a (omega arith))
