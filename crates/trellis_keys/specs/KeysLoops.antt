-- The keys of a column, one iteration of the loop over letters at a time.
use Rattle.std.specs.Prelude.{ℕ, ◌+◌, ◌<◌, ◌≤◌, ◌≡◌, ◌⊎◌, List, length, get_or, set}
use Rattle.std.proofs.Common.{sym, subst, ◌∙◌, inl, inr, arith, get_or-set_same, get_or-set_other}
use Rattle.lists.proofs.OrderLaws.{eq_or_ne}
use Rattle.lists.proofs.OutsideLaws.{outside_none, outside_set, outside_then, outside_wider}
use Rattle.trellis_keys.specs.Keys.{key_for, KeysBelow}

module _ (f column work : List ℕ) (next : ℕ) (before : List ℕ) where
  pub keys_none : KeysBelow f column work next before before 1
  keys_none = record { is = λ j l h. absurd (omega arith); outside = outside_none 1 1 before }

  pub keys_more :
      (ks : List ℕ) (n k : ℕ) → 1 ≤ n → n < length ks → KeysBelow f column work next before ks n → k ≡ key_for f column work next n
      → KeysBelow f column work next before (set ks n k) (n + 1)
  keys_more ks n k low h b e =
      record {
        is = λ j l m. is j l m (eq_or_ne j n);
        outside = outside_then (outside_wider 1 (n + 1) (omega arith) (omega arith) b.outside) (outside_set 1 (n + 1) ks n k low (omega arith));
      }
    where
      is : (j : ℕ) → 1 ≤ j → j < n + 1 → (j ≡ n) ⊎ (j ≡ n → ⊥) → get_or (set ks n k) j 0 ≡ key_for f column work next j
      is j l m (inl q) = subst (λ i. get_or (set ks n k) i 0 ≡ key_for f column work next i) (sym q) (get_or-set_same ks n k 0 h ∙ e)
      is j l m (inr d) = get_or-set_other ks n j k 0 d ∙ b.is j l (omega arith)
