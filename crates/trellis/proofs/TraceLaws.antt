-- The trace goes through all states that share the cost to go, column by column, by the lowest label that lies on a cheapest way. What it
-- writes is the best way: the cheapest, and the first by labels among equals.
use Rattle.std.specs.Prelude.{ℕ, ◌+◌, ◌-◌, ◌≤◌, ◌<◌, ◌≡◌, refl, List, [], ◌∷◌, ◌++◌, length}
use Rattle.std.proofs.Common.{sym, ap, subst, append_assoc, append-nil, inl, inr, ⊎_elim, arith}
use Rattle.lists.proofs.OrderLaws.{lt_or_le}
use Rattle.outcome.proofs.BestLaws.{best_same}
use Rattle.matrix.specs.Matrix.{Matrix, cost, price_from}
use Rattle.outcome.specs.Order.{NotAfter}
use Rattle.trellis.specs.Graph.{Graph, Way}
use Rattle.trellis.proofs.GraphLaws.{way_step, way_split}
use Rattle.trellis.specs.Impossible.{TOP}
use Rattle.trellis.specs.CostToGo.{WayOf, CostToGo}
use Rattle.trellis.specs.BestWay.{WayFrom, BestFrom}
use Rattle.trellis.proofs.Tight.{Tight, Chosen}

module _ {S : Type 0} (G : Graph S) (M : Matrix) where
  -- the set has at least one state, and its states share a cost to go, v, below TOP
  pub record Shared (t n : ℕ) (In : S → Type 0) (v : ℕ) : Type 0 where
    pub one : S
    pub member : In one
    pub all : (s : S) → In s → CostToGo G M t n s v
    pub below : v < TOP

  -- some way from the set has the price that its states share, and none costs less
  shared_way : {t n v : ℕ} {In : S → Type 0} (sh : Shared t n In v) → WayOf G M t n sh.one v
  shared_way sh = (sh.all sh.one sh.member).met sh.below

  shared_least : {t n v : ℕ} {In : S → Type 0} → Shared t n In v → (p : List ℕ) → WayFrom G n In p → v ≤ price_from M t p
  shared_least {t} sh p w = (sh.all w.from w.member).least (price_from M t p) (record { path = p; long = w.long; way = w.way; paid = refl })

  -- so the best way has the price that they share
  shared_price : {t n v : ℕ} {In : S → Type 0} (p : List ℕ) → Shared t n In v → BestFrom G M t n In p → price_from M t p ≡ v
  shared_price p sh b =
      let w = shared_way sh in
      let e = w.paid in
      let low = shared_least sh p b.qualifies in
      let high = b.least w.path (record { long = w.long; from = sh.one; member = sh.member; way = w.way }) in
      omega arith

  -- no column is left
  pub shared_end : {t v : ℕ} {In : S → Type 0} → Shared t 0 In v → BestFrom G M t 0 In []
  shared_end {In = In} sh =
      let w = shared_way sh in
      record { qualifies = by w.path w.long w.way; least = λ a q. omega arith; first = λ a q e. tt }
    where
      by : (p : List ℕ) → length p ≡ 0 → Way G sh.one p → WayFrom G 0 In []
      by [] e w = record { long = refl; from = sh.one; member = sh.member; way = w }
      by (x ∷ p) e w = absurd (omega arith)

  -- In a trace of n labels from the start, `done` has the labels of the columns before t. Followed by the best way of the l labels that are
  -- left, it is the best way of all.
  pub record Tracing (start : S) (n t l : ℕ) (In : S → Type 0) (v : ℕ) (done : List ℕ) : Type 0 where
    pub shared : Shared t l In v
    pub best : (p : List ℕ) → BestFrom G M t l In p → BestFrom G M 0 n (λ s. s ≡ start) (done ++ p)

  pub tracing_start :
      (start : S) (n v : ℕ) (In : S → Type 0) → In start → ((s : S) → In s → s ≡ start) → CostToGo G M 0 n start v → v < TOP → Tracing start n 0 n In v []
  tracing_start start n v In i only c b =
      record {
        shared = record { one = start; member = i; all = λ s h. subst (λ s. CostToGo G M 0 n s v) (sym (only s h)) c; below = b };
        best = λ p. best_same
            (λ a w. record { long = w.long; from = w.from; member = only w.from w.member; way = w.way })
            (λ a w. record { long = w.long; from = w.from; member = subst In (sym w.member) i; way = w.way });
      }

  pub tracing_all : {start : S} {n t v : ℕ} {In : S → Type 0} {done : List ℕ} → Tracing start n t 0 In v done → BestFrom G M 0 n (λ s. s ≡ start) done
  tracing_all {done = done} h = rw (append-nil done) at (h.best [] (shared_end h.shared))

  -- One column: the set, the cost to go that its states share, and the next row of costs to go.
  module _ {t v : ℕ} {In : S → Type 0} (n : ℕ) (row : S → ℕ) (sh : Shared t (n + 1) In v)
      (next : (s : S) → In s → (x : ℕ) (s' : S) → G.Step s x s' → CostToGo G M (t + 1) n s' (row s')) where
    -- the first step of a cheapest way is tight
    way_tight :
        (y : ℕ) (q : List ℕ) → length q ≡ n → (s : S) → In s → (s' : S) → G.Step s y s' → Way G s' q → price_from M t (y ∷ q) ≡ v
        → Tight G M t row In v y s'
    way_tight y q l s i s' st w e =
        let c = next s i y s' st in
        let b = sh.below in
        let low = c.least (price_from M (t + 1) q) (record { path = q; long = l; way = w; paid = refl }) in
        let r = c.met (omega arith) in
        let p = r.paid in
        let d = r.long in
        let high = shared_least sh (y ∷ r.path) (record { long = omega arith; from = s; member = i; way = way_step G st r.way }) in
        record { from = s; member = i; step = st; keeps = omega arith }

    -- so some step is tight
    pub some_tight : (x : ℕ) × (s : S) × Tight G M t row In v x s
    some_tight = let w = shared_way sh in by w.path w.long w.way w.paid
      where
        by : (p : List ℕ) → length p ≡ n + 1 → Way G sh.one p → price_from M t p ≡ v → (x : ℕ) × (s : S) × Tight G M t row In v x s
        by [] l w e = absurd (omega arith)
        by (y ∷ q) l w e =
            let g = way_split G sh.one y q w in
            (y, g.0, way_tight y q (omega arith) sh.one sh.member g.0 g.1 g.2 e)

    module _ {x : ℕ} {In' : S → Type 0} (ch : Chosen G M t row In v x In') where
      -- the cost of a tight step and what is left to pay after it
      tight_left : (s : S) → Tight G M t row In v x s → cost M t x + row s ≡ v
      tight_left s h = let b = sh.below in let e = h.keeps in omega arith

      pub tight_cost : cost M t x ≤ v
      tight_cost = let e = tight_left ch.one ch.by_x in omega arith

      pub shared_next : Shared (t + 1) n In' (v - cost M t x)
      shared_next =
          record {
            one = ch.one;
            member = ch.all ch.one ch.by_x;
            all = λ s i.
                let h = ch.hit s i in
                let e = tight_left s h in
                let z : row s ≡ v - cost M t x = omega arith in
                subst (CostToGo G M (t + 1) n s) z (next h.from h.member x s h.step);
            below = let b = sh.below in omega arith;
          }

      -- x followed by the best way for the rest is the best way
      pub best_next : (p : List ℕ) → BestFrom G M (t + 1) n In' p → BestFrom G M t (n + 1) In (x ∷ p)
      best_next p b =
          record {
            qualifies =
                let q = b.qualifies in
                let h = ch.hit q.from q.member in
                record { long = (let l = q.long in omega arith); from = h.from; member = h.member; way = way_step G h.step q.way };
            least = λ a q. let l = shared_least sh a q in let e = pays in omega arith;
            first = λ a q e. first a q.long q.from q.member q.way (let k = pays in omega arith);
          }
        where
          pays : price_from M (t + 1) p + cost M t x ≡ v
          pays = let e = shared_price p shared_next b in let c = tight_cost in omega arith

          same : (y : ℕ) (q : List ℕ) (s : S) → length q ≡ n → Tight G M t row In v y s → Way G s q → price_from M t (y ∷ q) ≡ v → x ≡ y → NotAfter p q
          same y q s l h w e z =
              let i : In' s = ch.all s (subst (λ l. Tight G M t row In v l s) (sym z) h) in
              let c : cost M t x ≡ cost M t y = ap (cost M t) z in
              let k = pays in
              b.first q (record { long = l; from = s; member = i; way = w }) (omega arith)

          first : (a : List ℕ) → length a ≡ n + 1 → (s : S) → In s → Way G s a → price_from M t a ≡ v → NotAfter (x ∷ p) a
          first [] l s i w e = absurd (omega arith)
          first (y ∷ q) l s i w e =
              let g = way_split G s y q w in
              let h = way_tight y q (omega arith) s i g.0 g.1 g.2 e in
              let low = ch.lowest y g.0 h in
              ⊎_elim inl (λ k. let z : x ≡ y = omega arith in inr (z, same y q g.0 (omega arith) h g.2 e z)) (lt_or_le x y)

      pub tracing_more :
          {start : S} {whole : ℕ} {done : List ℕ} → Tracing start whole t (n + 1) In v done
          → Tracing start whole (t + 1) n In' (v - cost M t x) (done ++ (x ∷ []))
      tracing_more {done = done} h =
          record { shared = shared_next; best = λ p b. rw (append_assoc done (x ∷ []) p) (h.best (x ∷ p) (best_next p b)) }
