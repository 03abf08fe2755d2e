-- The cheapest beginning to a state: the least price of the labels that lead to it from the start over the first columns, or TOP where
-- none cost less. The first row, each row from the row before, and the cost to go that the last row gives.
-- For the reader: nothing uses it.
use Rattle.std.specs.Prelude.{ℕ, suc, ◌+◌, ◌≡◌, refl, List, [], ◌∷◌, ◌++◌, length, get_or, take}
use Rattle.std.proofs.Common.{sym, ap, ◌∙◌, subst, arith, length-append, length-take-le, take-suc}
use Rattle.std.proofs.Math.Seq.{take-length}
use Rattle.lists.proofs.LeastLaws.{least_same, least_through}
use Rattle.lists.specs.Least.{Least}
use Rattle.matrix.specs.Matrix.{Matrix, cost, price}
use Rattle.matrix.proofs.MatrixLaws.{price_append}
use Rattle.trellis.specs.Graph.{Graph, Leads}
use Rattle.trellis.proofs.GraphLaws.{leads_append, leads_split}
use Rattle.trellis.specs.Impossible.{TOP, plus}
use Rattle.trellis.specs.CostToGo.{CostToGo}

module _ {S : Type 0} (G : Graph S) (M : Matrix) (start : S) where
  -- v is the price of t labels that lead from the start to state s
  pub record BeginningOf (t : ℕ) (s : S) (v : ℕ) : Type 0 where
    pub path : List ℕ
    pub long : length path ≡ t
    pub leads : Leads G start path s
    pub paid : price M path ≡ v

  abbrev pub CheapestBeginning : ℕ → S → ℕ → Type 0
  CheapestBeginning t s v = Least TOP (BeginningOf t s) v

  -- before any column
  pub beginning_start : CheapestBeginning 0 start 0
  beginning_start = record { within = omega arith; met = λ h. record { path = []; long = refl; leads = refl; paid = refl }; least = λ n b. omega arith }

  pub beginning_other : (s : S) → (start ≡ s → ⊥) → CheapestBeginning 0 s TOP
  beginning_other s f = record { within = omega arith; met = λ h. absurd (omega arith); least = λ n b. absurd (none b.path b.long b.leads) }
    where
      none : (p : List ℕ) → length p ≡ 0 → Leads G start p s → ⊥
      none [] e l = f l
      none (x ∷ p) e l = omega arith

  -- the prices that the steps to state u offer in column t, by the cheapest beginnings before it
  abbrev pub Inward : ℕ → (S → ℕ) → S → ℕ → Type 0
  Inward t row u n = (s : S) × (x : ℕ) × G.Step s x u × (n ≡ plus (cost M t x) (row s))

  -- the least of these is the cheapest beginning
  pub beginning_step :
      (t : ℕ) (row : S → ℕ) (u : S) {v : ℕ} → ((s : S) (x : ℕ) → G.Step s x u → CheapestBeginning t s (row s)) → Least TOP (Inward t row u) v
      → CheapestBeginning (t + 1) u v
  beginning_step t row u {v} before l =
      least_same (BeginningOf (t + 1) u) to from
      (least_through (λ k. cost M t k.1) (λ k. row k.0) (λ k. BeginningOf t k.0) (λ k. before k.0 k.1 k.2)
      (least_same (λ m. (k : Steps) × (m ≡ plus (cost M t k.1) (row k.0))) (λ m o. ((o.0, o.1, o.2), o.3)) (λ m o. (o.0.0, o.0.1, o.0.2, o.1)) l))
    where
      Steps : Type 0
      Steps = (s : S) × (x : ℕ) × G.Step s x u

      Joined : ℕ → Type 0
      Joined v = (k : Steps) × (m : ℕ) × BeginningOf t k.0 m × (v ≡ cost M t k.1 + m)

      last_price : (p : List ℕ) (x : ℕ) → length p ≡ t → price M (p ++ (x ∷ [])) ≡ cost M t x + price M p
      last_price p x e =
          let h = price_append M 0 p (x ∷ []) in
          let q : cost M (0 + length p) x ≡ cost M t x = ap (λ k. cost M k x) (let z : 0 + length p ≡ t = omega arith in z) in
          omega arith

      to : (v : ℕ) → Joined v → BeginningOf (t + 1) u v
      to v o =
          let x = o.0.1 in
          let b = o.2 in
          let e = b.paid in
          let q = last_price b.path x b.long in
          record {
            path = b.path ++ (x ∷ []);
            long = let h = b.long in simp length-append (omega arith);
            leads = leads_append G start o.0.0 u b.path (x ∷ []) b.leads (u, o.0.2, refl);
            paid = let h = o.3 in omega arith;
          }

      -- the last label split off
      snoc : (p : List ℕ) → length p ≡ t + 1 → (q : List ℕ) × (x : ℕ) × (length q ≡ t) × (p ≡ q ++ (x ∷ []))
      snoc p e = (
        take t p,
        get_or p t 0,
        length-take-le t p (omega arith),
        sym (take-length p) ∙ ap (λ k. take k p) (let z : length p ≡ suc t = omega arith in z) ∙ take-suc p t 0 (omega arith),
      )

      from : (v : ℕ) → BeginningOf (t + 1) u v → Joined v
      from v b = by (snoc b.path b.long) b.leads b.paid
        where
          by : (q : List ℕ) × (x : ℕ) × (length q ≡ t) × (b.path ≡ q ++ (x ∷ [])) → Leads G start b.path u → price M b.path ≡ v → Joined v
          by g h e =
              let q = g.0 in
              let x = g.1 in
              let l = leads_split G start u q (x ∷ []) (rw g.3 at h) in
              let d = last_price q x g.2 in
              let r : price M b.path ≡ price M (q ++ (x ∷ [])) = ap (price M) g.3 in
              ((l.0, x, subst (λ s. G.Step l.0 x s) l.2.2 l.2.1), price M q, record { path = q; long = g.2; leads = l.1; paid = refl }, omega arith)

  -- the least of the last row, over the states where a way may end, is the cost to go from the start
  pub beginning_ends :
      (t : ℕ) (row : S → ℕ) {v : ℕ} → ((s : S) → G.Ends s → CheapestBeginning t s (row s)) → Least TOP (λ n. (s : S) × G.Ends s × (n ≡ row s)) v
      → CostToGo G M 0 t start v
  beginning_ends t row {v} last l =
      record {
        within = l.within;
        met = λ h.
            let o = l.met h in
            let e = o.2 in
            let b = (last o.0 o.1).met (omega arith) in
            let p = b.paid in
            record { path = b.path; long = b.long; way = record { end = o.0; leads = b.leads; may = o.1 }; paid = omega arith };
        least = λ n w.
            let s = w.way.end in
            let h = (last s w.way.may).least n (record { path = w.path; long = w.long; leads = w.way.leads; paid = w.paid }) in
            let g = l.least (row s) (s, w.way.may, refl) in
            omega arith;
      }
