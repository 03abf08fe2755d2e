-- The list of the letters that may be first, one iteration of the loop over letters at a time.
use Rattle.std.specs.Prelude.{ℕ, ◌+◌, ◌<◌, ◌≤◌, ◌≡◌, true, false, ◌⊎◌, List, length, get_or, set}
use Rattle.std.proofs.Common.{sym, subst, ◌∙◌, inl, inr, arith, length-set, get_or-set_same, get_or-set_other}
use Rattle.lists.proofs.OrderLaws.{eq_or_ne, not_both}
use Rattle.lists.specs.Marks.{Listed}
use Rattle.automaton.specs.Form.{follow_of}
use Rattle.automaton.proofs.ValidLaws.{first_letter}
use Rattle.form_arcs.specs.Firsts.{FirstsBelow}

pub firsts_none : (f list : List ℕ) → length list ≡ 128 → FirstsBelow f 1 list 0
firsts_none f list size =
    record {
      size = size;
      few = omega arith;
      below = λ k h. absurd (omega arith);
      rises = λ k h. absurd (omega arith);
      is = λ k h. absurd (omega arith);
      all = λ j h e. let b = (first_letter f j e).0 in absurd (omega arith);
    }

module _ (f list : List ℕ) (j n : ℕ) (so_far : FirstsBelow f j list n) where
  -- letter j may not be first
  pub firsts_not : follow_of f 0 j ≡ false → FirstsBelow f (j + 1) list n
  firsts_not no_first =
      record {
        size = so_far.size;
        few = let h = so_far.few in omega arith;
        below = λ k h. let b = so_far.below k h in omega arith;
        rises = so_far.rises;
        is = so_far.is;
        all = λ i h e. by i h e (eq_or_ne i j);
      }
    where
      by : (i : ℕ) → i < j + 1 → follow_of f 0 i ≡ true → (i ≡ j) ⊎ (i ≡ j → ⊥) → Listed list n i
      by i h e (inl q) = absurd (not_both (follow_of f 0 j) (subst (λ i. follow_of f 0 i ≡ true) q e) no_first)
      by i h e (inr d) = so_far.all i (omega arith) e

  -- letter j may be first, and is written to place n
  pub firsts_more : j ≤ 127 → follow_of f 0 j ≡ true → FirstsBelow f (j + 1) (set list n j) (n + 1)
  firsts_more small may =
      record {
        size = length-set list n j ∙ so_far.size;
        few = let h = so_far.few in omega arith;
        below = λ k h. below k h (eq_or_ne k n);
        rises = λ k h. rises k h (eq_or_ne (k + 1) n);
        is = λ k h. is k h (eq_or_ne k n);
        all = λ i h e. by i h e (eq_or_ne i j);
      }
    where
      here : get_or (set list n j) n 0 ≡ j
      here = let s = so_far.size in let h = so_far.few in get_or-set_same list n j 0 (omega arith)

      below : (k : ℕ) → k < n + 1 → (k ≡ n) ⊎ (k ≡ n → ⊥) → get_or (set list n j) k 0 < j + 1
      below k h (inl q) = rw (q, here) (omega arith)
      below k h (inr d) = rw (get_or-set_other list n k j 0 d) (let b = so_far.below k (omega arith) in omega arith)

      rises : (k : ℕ) → k + 1 < n + 1 → (k + 1 ≡ n) ⊎ (k + 1 ≡ n → ⊥) → get_or (set list n j) k 0 < get_or (set list n j) (k + 1) 0
      rises k h (inl q) = rw (q, here, get_or-set_other list n k j 0 (λ e. omega arith)) (so_far.below k (omega arith))
      rises k h (inr d) =
          rw (get_or-set_other list n k j 0 (λ e. omega arith), get_or-set_other list n (k + 1) j 0 d) (so_far.rises k (omega arith))

      is : (k : ℕ) → k < n + 1 → (k ≡ n) ⊎ (k ≡ n → ⊥) → follow_of f 0 (get_or (set list n j) k 0) ≡ true
      is k h (inl q) = rw (q, here) may
      is k h (inr d) = rw (get_or-set_other list n k j 0 d) (so_far.is k (omega arith))

      by : (i : ℕ) → i < j + 1 → follow_of f 0 i ≡ true → (i ≡ j) ⊎ (i ≡ j → ⊥) → Listed (set list n j) (n + 1) i
      by i h e (inl q) = (n, omega arith, here ∙ sym q)
      by i h e (inr d) =
          let o = so_far.all i (omega arith) e in
          let l = o.1 in
          (o.0, omega arith, get_or-set_other list n o.0 j 0 (λ q. omega arith) ∙ o.2)
