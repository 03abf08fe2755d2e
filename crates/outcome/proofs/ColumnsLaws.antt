-- If all usable costs of one column are raised by the same amount, the same path is best, and it costs that much more.
-- For the reader: nothing uses it.
use Rattle.std.specs.Prelude.{ℕ, ◌+◌, ◌≤◌, ◌<◌, ◌≡◌, refl, List, [], ◌∷◌, ◌⊎◌, length}
use Rattle.std.proofs.Common.{sym, ◌∙◌, inl, inr, arith}
use Rattle.std.proofs.Math.Option.{Option, some, none}
use Rattle.lists.proofs.OrderLaws.{eq_or_ne}
use Rattle.matrix.specs.Matrix.{Matrix, cost, price_from, price}
use Rattle.matrix.specs.Paths.{Usable, PathFrom}
use Rattle.outcome.specs.Outcome.{Rival, Outcome}

-- N is M with the usable costs of one column raised, and the same costs are usable
pub record Raised (column amount : ℕ) (M N : Matrix) : Type 0 where
  pub width : N.width ≡ M.width
  pub count : N.count ≡ M.count
  pub there : column < M.count
  pub here : (x : ℕ) → x < M.width → Usable (cost M column x) → cost N column x ≡ cost M column x + amount
  pub elsewhere : (t x : ℕ) → (t ≡ column → ⊥) → x < M.width → cost N t x ≡ cost M t x
  pub keeps : (x : ℕ) → x < M.width → Usable (cost M column x) → Usable (cost N column x)
  pub adds : (x : ℕ) → x < M.width → Usable (cost N column x) → Usable (cost M column x)

module _ (column amount : ℕ) (M N : Matrix) (r : Raised column amount M N) where
  -- after that column the price is the same
  beyond : (t : ℕ) (p : List ℕ) → column < t → PathFrom M t p → price_from N t p ≡ price_from M t p
  beyond t [] l h = refl
  beyond t (x ∷ p) l h =
      let e : cost N t x ≡ cost M t x = r.elsewhere t x (λ q. omega arith) h.0 in
      let i = beyond (t + 1) p (omega arith) h.2 in
      omega arith

  price_raised : (t : ℕ) (p : List ℕ) → t ≤ column → column < t + length p → PathFrom M t p → price_from N t p ≡ price_from M t p + amount
  price_raised t [] l g h = absurd (omega arith)
  price_raised t (x ∷ p) l g h = by (eq_or_ne t column) (λ m. price_raised (t + 1) p m (omega arith) h.2)
    where
      by :
          (t ≡ column) ⊎ (t ≡ column → ⊥) → (t + 1 ≤ column → price_from N (t + 1) p ≡ price_from M (t + 1) p + amount)
          → price_from N t (x ∷ p) ≡ price_from M t (x ∷ p) + amount
      by (inl e) f =
          let c : cost N t x ≡ cost M t x + amount = rw e (r.here x h.0 (rw e at h.1)) in
          let i = beyond (t + 1) p (omega arith) h.2 in
          omega arith
      by (inr n) f =
          let c : cost N t x ≡ cost M t x = r.elsewhere t x n h.0 in
          let i = f (omega arith) in
          omega arith

  stays : (t : ℕ) (p : List ℕ) → PathFrom M t p → PathFrom N t p
  stays t [] h = tt
  stays t (x ∷ p) h = (rw r.width h.0, by (eq_or_ne t column), stays (t + 1) p h.2)
    where
      by : (t ≡ column) ⊎ (t ≡ column → ⊥) → Usable (cost N t x)
      by (inl e) = rw e (r.keeps x h.0 (rw e at h.1))
      by (inr n) = rw (r.elsewhere t x n h.0) h.1

  returns : (t : ℕ) (p : List ℕ) → PathFrom N t p → PathFrom M t p
  returns t [] h = tt
  returns t (x ∷ p) h = (w, by (eq_or_ne t column), returns (t + 1) p h.2)
    where
      w : x < M.width
      w = rw r.width at h.0

      by : (t ≡ column) ⊎ (t ≡ column → ⊥) → Usable (cost M t x)
      by (inl e) = rw e (r.adds x w (rw e at h.1))
      by (inr n) = rw (r.elsewhere t x n w) at h.1

  module _ (Word : List ℕ → Type 0) where
    rival_there : (p : List ℕ) → Rival Word M p → Rival Word N p
    rival_there p h = record { path = record { one_each = h.path.one_each ∙ sym r.count; labels = stays 0 p h.path.labels }; word = h.word }

    rival_back : (p : List ℕ) → Rival Word N p → Rival Word M p
    rival_back p h = record { path = record { one_each = h.path.one_each ∙ r.count; labels = returns 0 p h.path.labels }; word = h.word }

    -- a rival costs that much more
    pub rival_raised : (p : List ℕ) → Rival Word M p → price N p ≡ price M p + amount
    rival_raised p h = price_raised 0 p (omega arith) (let e = h.path.one_each in let c = r.there in omega arith) h.path.labels

    -- the outcome is the same
    pub outcome_raised : (o : Option (List ℕ)) → Outcome Word M o → Outcome Word N o
    outcome_raised none h = λ p q. h p (rival_back p q)
    outcome_raised (some p) h =
        record {
          qualifies = rival_there p h.qualifies;
          least =
              λ a q.
              let l = h.least a (rival_back a q) in
              let e = rival_raised p h.qualifies in
              let f = rival_raised a (rival_back a q) in
              omega arith;
          first =
              λ a q g.
              let e = rival_raised p h.qualifies in
              let f = rival_raised a (rival_back a q) in
              h.first a (rival_back a q) (omega arith);
        }
