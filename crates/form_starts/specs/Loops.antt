-- What one iteration of each loop of this crate shows of the starts; and that a letter's arcs are those from its start up to the next.
use Rattle.std.specs.Prelude.{ℕ, ◌+◌, ◌<◌, ◌≤◌, ◌≡◌, ◌⊎◌, List, length, get_or, set}
use Rattle.std.proofs.Common.{sym, subst, inl, inr, arith, get_or-set_same, get_or-set_other}
use Rattle.lists.proofs.OrderLaws.{lt_or_le, eq_or_ne}
use Rattle.automaton.specs.Form.{letters_of, source}
use Rattle.automaton.specs.WordsLaws.{Arc}
use Rattle.automaton.specs.Valid.{Valid}
use Rattle.form_starts.specs.Starts.{Skipped, StartsAt}

-- one more source below i
pub below_more :
    (f : List ℕ) (n i m : ℕ) → ((k : ℕ) → n ≤ k → k < m → source (get_or f k 0) < i) → source (get_or f m 0) < i
    → (k : ℕ) → n ≤ k → k < m + 1 → source (get_or f k 0) < i
below_more f n i m old new k l h = by (eq_or_ne k m)
  where
    by : (k ≡ m) ⊎ (k ≡ m → ⊥) → source (get_or f k 0) < i
    by (inl e) = subst (λ j. source (get_or f j 0) < i) (sym e) new
    by (inr d) = old k l (omega arith)

-- the arcs of letter i are those from its start up to the start of the next letter
module _ (f : List ℕ) (i b e : ℕ) (first : StartsAt f i b) (next : StartsAt f (i + 1) e) where
  pub range_source : (n : ℕ) → b ≤ n → n < e → source (get_or f n 0) ≡ i
  range_source n l h =
      let p = first.past in
      let q = next.inside in
      let low = first.above n l (omega arith) in
      let high = next.below n (omega arith) h in
      omega arith

  pub range_rises : b ≤ e
  range_rises = by (lt_or_le e b)
    where
      by : (e < b) ⊎ (b ≤ e) → b ≤ e
      by (inl q) =
          let p = next.past in
          let h = first.inside in
          let low = first.below e (omega arith) q in
          let high = next.above e (omega arith) (omega arith) in
          absurd (omega arith)
      by (inr q) = q

  pub source_range : (n : ℕ) → letters_of f < n → n < length f → source (get_or f n 0) ≡ i → (b ≤ n) × (n < e)
  source_range n l h s = (by (lt_or_le n b), by_end (lt_or_le n e))
    where
      by : (n < b) ⊎ (b ≤ n) → b ≤ n
      by (inl q) = let low = first.below n l q in absurd (omega arith)
      by (inr q) = q

      by_end : (n < e) ⊎ (e ≤ n) → n < e
      by_end (inl q) = q
      by_end (inr q) = let high = next.above n q h in absurd (omega arith)

-- a later arc has no lower source
source_rises : (l w v : ℕ) → Arc l w → Arc l v → w < v → source w ≤ source v
source_rises l w v a b h = omega arith

-- the loop over the letters: the arcs before n have sources below i
abbrev pub Passed : List ℕ → ℕ → ℕ → Type 0
Passed f i n = (letters_of f < n) × (n ≤ length f) × ((m : ℕ) → letters_of f < m → m < n → source (get_or f m 0) < i)

module _ (f : List ℕ) (valid : Valid f) (i : ℕ) where
  pub skipped_starts : (n r : ℕ) → Passed f i n → Skipped f n i r → StartsAt f i r
  skipped_starts n r p s =
      let p0 = p.0 in
      let s0 = s.from in
      let inside = s.inside in
      record {
        past = omega arith;
        inside = inside;
        below = λ m l h. below m l h (lt_or_le m n);
        above = λ m l h. above m l h (eq_or_ne m r);
      }
    where
      below : (m : ℕ) → letters_of f < m → m < r → (m < n) ⊎ (n ≤ m) → source (get_or f m 0) < i
      below m l h (inl q) = p.2 m l q
      below m l h (inr q) = s.below m q h

      above : (m : ℕ) → r ≤ m → m < length f → (m ≡ r) ⊎ (m ≡ r → ⊥) → i ≤ source (get_or f m 0)
      above m l h (inl e) = subst (λ k. i ≤ source (get_or f k 0)) (sym e) (s.stops (omega arith))
      above m l h (inr d) =
          let p0 = p.0 in
          let s0 = s.from in
          let at = s.stops (omega arith) in
          let up = source_rises (letters_of f) (get_or f r 0) (get_or f m 0)
          (valid.arc r (omega arith) (omega arith)) (valid.arc m (omega arith) h) (valid.ascends r m (omega arith) (omega arith) h) in
          omega arith

  pub starts_passed : (r : ℕ) → StartsAt f i r → Passed f (i + 1) r
  starts_passed r b = (b.past, b.inside, λ m l h. let q = b.below m l h in omega arith)

-- one more start noted
pub starts_more :
    (f s : List ℕ) (i b : ℕ) → length s ≡ 129 → i < 129 → ((j : ℕ) → j < i → StartsAt f j (get_or s j 0)) → StartsAt f i b
    → (j : ℕ) → j < i + 1 → StartsAt f j (get_or (set s i b) j 0)
starts_more f s i b size l old new j h = by (eq_or_ne j i)
  where
    by : (j ≡ i) ⊎ (j ≡ i → ⊥) → StartsAt f j (get_or (set s i b) j 0)
    by (inl e) = subst (λ k. StartsAt f k (get_or (set s i b) k 0)) (sym e) (subst (StartsAt f i) (sym (get_or-set_same s i b 0 (omega arith))) new)
    by (inr d) = subst (StartsAt f j) (sym (get_or-set_other s i j b 0 d)) (old j (omega arith))
