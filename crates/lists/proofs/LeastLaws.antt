-- Laws of the least number that is offered, and how a loop over an index finds it.
use Rattle.std.specs.Prelude.{ℕ, ◌+◌, ◌<◌, ◌≤◌, min, ◌≡◌, refl, ◌⊎◌}
use Rattle.std.proofs.Common.{subst, inl, inr, ⊎_elim, arith}
use Rattle.lists.proofs.OrderLaws.{lt_or_le, eq_or_ne}
use Rattle.lists.specs.Least.{Least, Among}

module _ {top : ℕ} where
  pub least_none : (P : ℕ → Type 0) → ((n : ℕ) → P n → ⊥) → Least top P top
  least_none P f = record { within = omega arith; met = λ h. absurd (omega arith); least = λ n p. absurd (f n p) }

  pub least_one : (c : ℕ) → c ≤ top → Least top (λ n. n ≡ c) c
  least_one c h = record { within = h; met = λ l. refl; least = λ n e. omega arith }

  -- one number is offered, which may be above top
  pub least_held : (P : ℕ → Type 0) (c : ℕ) → ((n : ℕ) → n ≡ c → P n) → ((n : ℕ) → P n → n ≡ c) → Least top P (min top c)
  least_held P c to from =
      record { within = omega arith; met = λ h. to (min top c) (omega arith); least = λ n p. let e = from n p in omega arith }

  -- equal offers, equal least
  pub least_same : {P : ℕ → Type 0} {v : ℕ} (Q : ℕ → Type 0) → ((n : ℕ) → P n → Q n) → ((n : ℕ) → Q n → P n) → Least top P v → Least top Q v
  least_same {v = v} Q to from l = record { within = l.within; met = λ h. to v (l.met h); least = λ n q. l.least n (from n q) }

  pub least_either : {P Q : ℕ → Type 0} {v w : ℕ} → Least top P v → Least top Q w → Least top (λ n. P n ⊎ Q n) (min v w)
  least_either {P} {Q} {v} {w} l m =
      record {
        within = let h = l.within in omega arith;
        met = met;
        least = λ n. ⊎_elim (λ p. let h = l.least n p in omega arith) (λ q. let h = m.least n q in omega arith);
      }
    where
      met : min v w < top → P (min v w) ⊎ Q (min v w)
      met h =
          ⊎_elim (λ k. inl (let e : v ≡ min v w = omega arith in subst P e (l.met (omega arith))))
          (λ k. inr (let e : w ≡ min v w = omega arith in subst Q e (m.met (omega arith))))
          (lt_or_le v w)

  -- The least of the sums c k + m, over each k and each m that P k offers: for each k the least m is enough, and a sum above top counts
  -- as top.
  pub least_through :
      {K : Type 0} (c r : K → ℕ) (P : K → ℕ → Type 0) → ((k : K) → Least top (P k) (r k)) → {v : ℕ}
      → Least top (λ n. (k : K) × (n ≡ min top (c k + r k))) v → Least top (λ n. (k : K) × (m : ℕ) × P k m × (n ≡ c k + m)) v
  least_through {K} c r P beyond {v} l =
      record {
        within = l.within;
        met = λ h.
            let k = (l.met h).0 in
            let e = (l.met h).1 in
            let i = (beyond k).within in
            (k, r k, (beyond k).met (omega arith), omega arith);
        least = λ n o.
            let k = o.0 in
            let e = o.3 in
            let i = (beyond k).least o.1 o.2 in
            let j = l.least (min top (c k + r k)) (k, refl) in
            omega arith;
      }

  -- The loop over an index from a on: at first nothing is offered; then index k adds the least that it offers.
  module _ (a : ℕ) (Q : ℕ → ℕ → Type 0) where
    pub least_start : Least top (Among a a Q) top
    least_start = least_none (Among a a Q) (λ n o. let h = o.1 in let i = o.2 in omega arith)

    pub least_more : {k v w : ℕ} → a ≤ k → Least top (Among a k Q) v → Least top (Q k) w → Least top (Among a (k + 1) Q) (min v w)
    least_more {k} h l m = least_same (Among a (k + 1) Q) (λ n. ⊎_elim (λ o. (o.0, o.1, (let i = o.2 in omega arith), o.3)) (λ q. (k, h, omega arith, q))) split (least_either l m)
      where
        split : (n : ℕ) → Among a (k + 1) Q n → Among a k Q n ⊎ Q k n
        split n o =
            ⊎_elim (λ e. inr (subst (λ i. Q i n) e o.3)) (λ d. inl (o.0, o.1, (let i = o.2 in omega arith), o.3)) (eq_or_ne o.0 k)
