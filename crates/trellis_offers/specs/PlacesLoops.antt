-- The least key of the letters that a list has from one place up to another, one iteration of a loop at a time.
use Rattle.std.specs.Prelude.{ℕ, ◌+◌, ◌-◌, ◌%◌, ◌<◌, ◌≤◌, min, ◌≡◌, refl, Bool, true, false, cond, List, length, get_or, eqb}
use Rattle.std.proofs.Common.{sym, subst, arith, eqb-true}
use Rattle.std.proofs.lemmas.Bool.{eqb-false}
use Rattle.lists.proofs.LeastLaws.{least_none, least_held, least_start, least_more}
use Rattle.lists.specs.Least.{Least, Among}
use Rattle.trellis_offers.specs.Offers.{FAR, unless_own}
use Rattle.trellis_offers.specs.Places.{key_at, Looked, KeyAt, OtherAt}

module _ (list ks : List ℕ) (b : ℕ) where
  -- one more letter
  pub key_more :
      (k m : ℕ) → b ≤ k → Least FAR (Among b k (KeyAt list ks)) m → Least FAR (Among b (k + 1) (KeyAt list ks)) (min m (key_at list ks k))
  key_more k m low l =
      let h = l.within in
      let e : min m (min FAR (key_at list ks k)) ≡ min m (key_at list ks k) = omega arith in
      subst (Least FAR (Among b (k + 1) (KeyAt list ks))) e
      (least_more b (KeyAt list ks) low l (least_held (KeyAt list ks k) (key_at list ks k) (λ n q. q) (λ n q. q)))

  -- one more letter, unless its label is `own`
  pub other_more :
      (own k m : ℕ) → b ≤ k → Least FAR (Among b k (OtherAt list ks own)) m
      → Least FAR (Among b (k + 1) (OtherAt list ks own)) (min m (unless_own (key_at list ks k) own))
  other_more own k m low l = by (eqb (key_at list ks k % 256) own) refl
    where
      Q : ℕ → ℕ → Type 0
      Q = OtherAt list ks own

      by : (t : Bool) → eqb (key_at list ks k % 256) own ≡ t → Least FAR (Among b (k + 1) Q) (min m (cond t FAR (key_at list ks k)))
      by true e = least_more b Q low l (least_none (Q k) (λ n o. o.0 (eqb-true (key_at list ks k % 256) own e)))
      by false e =
          let h = l.within in
          let held : min m (min FAR (key_at list ks k)) ≡ min m (key_at list ks k) = omega arith in
          subst (Least FAR (Among b (k + 1) Q)) held
          (least_more b Q low l (least_held (Q k) (key_at list ks k) (λ n q. (eqb-false (key_at list ks k % 256) own e, q)) (λ n o. o.1)))

-- where the pairs from b up to e end: at e, or at the place before if their number is odd
abbrev pub even_end : (b e : ℕ) → ℕ
even_end b e = e - (e - b) % 2

-- The loop by pairs over the places from b up to e, at k: the least so far is m.
pub record Pairs (Q : ℕ → ℕ → Type 0) (b e k m : ℕ) : Type 0 where
  pub low : b ≤ k
  pub high : k ≤ even_end b e
  pub even : (even_end b e - k) % 2 ≡ 0
  pub least : Least FAR (Among b k Q) m

module _ {list ks : List ℕ} {b e : ℕ} (looked : Looked list ks b e) (Q : ℕ → ℕ → Type 0) where
  pub pairs_start : Pairs Q b e b FAR
  pairs_start = let r = looked.rises in record { low = omega arith; high = omega arith; even = omega arith; least = least_start b Q }

  module _ {k m : ℕ} (pairs : Pairs Q b e k m) where
    -- the letter at k has a key
    pub has_key : k < e → (k < length list) × (get_or list k 0 < length ks)
    has_key h = let i = looked.inside in (omega arith, looked.within k pairs.low h)

    -- both letters of a pair are before e, and the second has a key too
    pub pair_inside : k < even_end b e → (k < e) × (k + 1 < e)
    pair_inside h = let p = pairs.even in let r = looked.rises in (omega arith, omega arith)

    pub next_has_key : k < even_end b e → (k + 1 < length list) × (get_or list (k + 1) 0 < length ks)
    next_has_key h =
        let i = looked.inside in
        let n = (pair_inside h).1 in
        (omega arith, looked.within (k + 1) (let l = pairs.low in omega arith) n)

    -- nothing is left
    pub pairs_end : even_end b e ≤ k → e ≤ k → Least FAR (Among b e Q) m
    pairs_end d f = let h = pairs.high in let r = looked.rises in let last : k ≡ e = omega arith in subst (λ n. Least FAR (Among b n Q) m) last pairs.least

    -- one more letter lowers the least to its minimum with g
    module _ (g : ℕ → ℕ) (more : (k m : ℕ) → b ≤ k → Least FAR (Among b k Q) m → Least FAR (Among b (k + 1) Q) (min m (g k))) where
      pub pairs_more : k < even_end b e → (v : ℕ) → v ≡ min m (min (g k) (g (k + 1))) → Pairs Q b e (k + 2) v
      pairs_more h v is =
          let p = pairs.even in
          let l = pairs.low in
          let two : k + 1 + 1 ≡ k + 2 = omega arith in
          let both : min (min m (g k)) (g (k + 1)) ≡ v = let e = is in omega arith in
          record {
            low = omega arith;
            high = omega arith;
            even = omega arith;
            least =
                subst (λ n. Least FAR (Among b n Q) v) two
                (subst (Least FAR (Among b (k + 1 + 1) Q)) both (more (k + 1) (min m (g k)) (omega arith) (more k m l pairs.least)));
          }

      pub pairs_last : even_end b e ≤ k → k < e → (v : ℕ) → v ≡ min m (g k) → Least FAR (Among b e Q) v
      pairs_last d f v is =
          let h = pairs.high in
          let r = looked.rises in
          let last : k + 1 ≡ e = omega arith in
          subst (Least FAR (Among b e Q)) (sym is) (subst (λ n. Least FAR (Among b n Q) (min m (g k))) last (more k m pairs.low pairs.least))
