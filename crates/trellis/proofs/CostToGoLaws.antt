-- Laws: the last row of costs to go, and each row from the row of the next column.
use Rattle.std.specs.Prelude.{ℕ, ◌+◌, ◌≡◌, refl, List, [], ◌∷◌, length}
use Rattle.std.proofs.Common.{sym, arith}
use Rattle.lists.proofs.LeastLaws.{least_same, least_through}
use Rattle.lists.specs.Least.{Least}
use Rattle.matrix.specs.Matrix.{Matrix, cost, price_from}
use Rattle.trellis.specs.Graph.{Graph, Way}
use Rattle.trellis.proofs.GraphLaws.{way_step, way_split, way_here, way_none}
use Rattle.trellis.specs.Impossible.{TOP, plus}
use Rattle.trellis.specs.CostToGo.{WayOf, CostToGo}

module _ {S : Type 0} (G : Graph S) (M : Matrix) where
  -- no column is left
  pub togo_ends : (t : ℕ) (s : S) → G.Ends s → CostToGo G M t 0 s 0
  togo_ends t s e =
      record {
        within = omega arith;
        met = λ h. record { path = []; long = refl; way = way_here G s e; paid = refl };
        least = λ n w. omega arith;
      }

  pub togo_never : (t : ℕ) (s : S) → (G.Ends s → ⊥) → CostToGo G M t 0 s TOP
  togo_never t s f = record { within = omega arith; met = λ h. absurd (omega arith); least = λ n w. absurd (none w.path w.long w.way) }
    where
      none : (p : List ℕ) → length p ≡ 0 → Way G s p → ⊥
      none [] e w = f (way_none G s w)
      none (x ∷ p) e w = omega arith

  -- the prices that the steps from state s offer in column t, by the next row of costs to go
  abbrev pub Onward : ℕ → (S → ℕ) → S → ℕ → Type 0
  Onward t row s n = (x : ℕ) × (s' : S) × G.Step s x s' × (n ≡ plus (cost M t x) (row s'))

  -- the least of these is the cost to go
  pub togo_step :
      (t n : ℕ) (row : S → ℕ) (s : S) {v : ℕ} → ((x : ℕ) (s' : S) → G.Step s x s' → CostToGo G M (t + 1) n s' (row s')) → Least TOP (Onward t row s) v
      → CostToGo G M t (n + 1) s v
  togo_step t n row s {v} next l =
      least_same (WayOf G M t (n + 1) s) to from
      (least_through (λ k. cost M t k.0) (λ k. row k.1) (λ k. WayOf G M (t + 1) n k.1) (λ k. next k.0 k.1 k.2)
      (least_same (λ m. (k : Steps) × (m ≡ plus (cost M t k.0) (row k.1))) (λ m o. ((o.0, o.1, o.2), o.3)) (λ m o. (o.0.0, o.0.1, o.0.2, o.1)) l))
    where
      Steps : Type 0
      Steps = (x : ℕ) × (s' : S) × G.Step s x s'

      Joined : ℕ → Type 0
      Joined v = (k : Steps) × (m : ℕ) × WayOf G M (t + 1) n k.1 m × (v ≡ cost M t k.0 + m)

      to : (v : ℕ) → Joined v → WayOf G M t (n + 1) s v
      to v o =
          let w = o.2 in
          let e = w.paid in
          record {
            path = o.0.0 ∷ w.path;
            long = let h = w.long in omega arith;
            way = way_step G o.0.2 w.way;
            paid = let h = o.3 in omega arith;
          }

      from : (v : ℕ) → WayOf G M t (n + 1) s v → Joined v
      from v w = by w.path w.long w.way w.paid
        where
          by : (p : List ℕ) → length p ≡ n + 1 → Way G s p → price_from M t p ≡ v → Joined v
          by [] e a h = absurd (omega arith)
          by (x ∷ p) e a h =
              let g = way_split G s x p a in
              ((x, g.0, g.1), price_from M (t + 1) p, record { path = p; long = omega arith; way = g.2; paid = refl }, sym h)
