-- Principles of a loop over the indices of a list that sets the element at each index, or leaves it.
use Rattle.std.specs.Prelude.{ℕ, ◌+◌, ◌<◌, ◌≤◌, ◌≡◌, refl, List, length, get_or, set}
use Rattle.std.proofs.Common.{sym, subst, ◌∙◌, below_more, arith, length-set, get_or-set_same, get_or-set_other}

module _ {A : Type 0} (d : A) (R : ℕ → A → Type 0) (before : List A) where
  -- below i each element is as R requires, and from i on the list is as it was
  pub record Upto (i : ℕ) (present : List A) : Type 0 where
    pub size : length present ≡ length before
    pub done : (k : ℕ) → k < i → R k (get_or present k d)
    pub rest : (k : ℕ) → i ≤ k → get_or present k d ≡ get_or before k d

  pub upto_none : Upto 0 before
  upto_none = record { size = refl; done = λ k h. absurd (omega arith); rest = λ k h. refl }

  pub upto_left : (i : ℕ) (present : List A) → Upto i present → R i (get_or before i d) → Upto (i + 1) present
  upto_left i present u h =
      record {
        size = u.size;
        done = below_more (λ k. R k (get_or present k d)) i u.done (subst (R i) (sym (u.rest i (omega arith))) h);
        rest = λ k l. u.rest k (omega arith);
      }

  pub upto_set : (i : ℕ) (present : List A) (v : A) → i < length before → Upto i present → R i v → Upto (i + 1) (set present i v)
  upto_set i present v inside u h =
      record {
        size = length-set present i v ∙ u.size;
        done =
            below_more (λ k. R k (get_or (set present i v) k d)) i
            (λ k m. subst (R k) (sym (get_or-set_other present i k v d (λ e. omega arith))) (u.done k m))
            (subst (R i) (sym (get_or-set_same present i v d (let s = u.size in omega arith))) h);
        rest = λ k m. get_or-set_other present i k v d (λ e. omega arith) ∙ u.rest k (omega arith);
      }
