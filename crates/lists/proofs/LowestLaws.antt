-- Laws of the lowest number that passes a test, and of the loop that looks for it.
use Rattle.std.specs.Prelude.{ℕ, ◌+◌, ◌<◌, ◌≤◌, ◌≡◌, refl, Bool, true, false, List, [], ◌∷◌, get_or}
use Rattle.std.proofs.Common.{sym, ap, subst, ◌∙◌, inl, ⊎_elim, arith}
use Rattle.lists.specs.Lists.{Among, keep, keeping, numbers, lowest, Ascending}
use Rattle.lists.proofs.AmongLaws.{keep_among, among_keep, keep_same, each_among}
use Rattle.lists.proofs.AscendingLaws.{among_numbers, numbers_among, ascending_keep, ascending_numbers}
use Rattle.lists.proofs.RemainingLoops.{from, from_first, keep_here, keep_past}
use Rattle.lists.proofs.OrderLaws.{lt_or_le, not_both}

-- r is one of the numbers 1 to n, it passes, and no lower one does
pub record LowestOf (p : ℕ → Bool) (n r : ℕ) : Type 0 where
  pub low : 1 ≤ r
  pub high : r ≤ n
  pub passes : p r ≡ true
  pub least : (j : ℕ) → 1 ≤ j → j ≤ n → p j ≡ true → r ≤ j

module _ (p : ℕ → Bool) (n : ℕ) where
  passing : (x : ℕ) → Among x (keep p (numbers 1 n)) → (1 ≤ x) × (x ≤ n) × (p x ≡ true)
  passing x m =
      let k = keep_among p x (numbers 1 n) m in
      let r = numbers_among 1 n x k.0 in
      (r.0, omega arith, k.1)

  -- a number is found
  pub lowest_found : 1 ≤ lowest p n → LowestOf p n (lowest p n)
  lowest_found h = by (keep p (numbers 1 n)) refl (ascending_keep p (numbers 1 n) (ascending_numbers 1 n)) h
    where
      by : (l : List ℕ) → keep p (numbers 1 n) ≡ l → Ascending l → 1 ≤ get_or l 0 0 → LowestOf p n (get_or l 0 0)
      by [] e a h = absurd (omega arith)
      by (x ∷ l) e a h =
          let r = passing x (subst (Among x) (sym e) (inl refl)) in
          record {
            low = r.0;
            high = r.1;
            passes = r.2;
            least = λ j g k t.
                ⊎_elim (λ q. omega arith) (λ m. let b = each_among (λ y. x < y) j l a.0 m in omega arith)
                (subst (Among j) e (among_keep p j (numbers 1 n) (among_numbers 1 n j g (omega arith)) t));
          }

  -- where one passes, some number is found
  pub lowest_some : (j : ℕ) → 1 ≤ j → j ≤ n → p j ≡ true → 1 ≤ lowest p n
  lowest_some j l h t = by (keep p (numbers 1 n)) refl (among_keep p j (numbers 1 n) (among_numbers 1 n j l (omega arith)) t)
    where
      by : (l : List ℕ) → keep p (numbers 1 n) ≡ l → Among j l → 1 ≤ get_or l 0 0
      by [] e m = absurd m
      by (x ∷ l) e m = (passing x (subst (Among x) (sym e) (inl refl))).0

  pub lowest_is : (j : ℕ) → 1 ≤ j → j ≤ n → p j ≡ true → ((k : ℕ) → 1 ≤ k → k < j → p k ≡ false) → lowest p n ≡ j
  lowest_is j l h t none =
      let r = lowest_found (lowest_some j l h t) in
      let most = r.least j l h t in
      ⊎_elim (λ g. absurd (not_both (p (lowest p n)) r.passes (none (lowest p n) r.low g))) (λ g. omega arith) (lt_or_le (lowest p n) j)

  pub lowest_most : lowest p n ≤ n
  lowest_most = ⊎_elim (λ z. omega arith) (λ s. (lowest_found s).high) (lt_or_le (lowest p n) 1)

  -- a test that agrees
  pub lowest_same : (q : ℕ → Bool) → ((j : ℕ) → 1 ≤ j → j ≤ n → p j ≡ q j) → lowest p n ≡ lowest q n
  lowest_same q h = ap (λ l. get_or l 0 0) (keep_same p q (numbers 1 n) (λ j m. let r = numbers_among 1 n j m in h j r.0 (omega arith)))

  -- The loop at j: the numbers from j on decide.
  abbrev pub Seeking : ℕ → Type 0
  Seeking j = get_or (keep p (from n j)) 0 0 ≡ lowest p n

  pub seeking_first : Seeking 1
  seeking_first = ap (λ l. get_or (keep p l) 0 0) (from_first n)

  pub seeking_more : (j : ℕ) → j ≤ n → p j ≡ false → Seeking j → Seeking (j + 1)
  seeking_more j h t e = sym (ap (λ l. get_or l 0 0) (keep_here n p j h ∙ ap (λ b. keeping b j (keep p (from n (j + 1)))) t)) ∙ e

  pub seeking_found : (j : ℕ) → j ≤ n → p j ≡ true → Seeking j → j ≡ lowest p n
  seeking_found j h t e = sym (ap (λ l. get_or l 0 0) (keep_here n p j h ∙ ap (λ b. keeping b j (keep p (from n (j + 1)))) t)) ∙ e

  pub seeking_none : (j : ℕ) → n < j → Seeking j → 0 ≡ lowest p n
  seeking_none j h e = sym (ap (λ l. get_or l 0 0) (keep_past n p j h)) ∙ e
