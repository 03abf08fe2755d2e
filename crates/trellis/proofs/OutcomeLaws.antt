-- The outcome for the words of an automaton, from the cost to go of state 0: nothing to read where that is TOP, else the best way.
use Rattle.std.specs.Prelude.{ℕ, ◌+◌, ◌≤◌, ◌<◌, ◌≡◌, refl, List, ◌↔◌, length}
use Rattle.std.proofs.Common.{sym, subst, ⊎_elim, arith}
use Rattle.std.proofs.Math.Option.{Option, some, none}
use Rattle.lists.proofs.OrderLaws.{lt_or_le}
use Rattle.lists.specs.Each.{Each}
use Rattle.automaton.specs.Automaton.{Automaton, Accepts}
use Rattle.automaton.specs.Proper.{Proper}
use Rattle.automaton.specs.Accepted.{accepts}
use Rattle.automaton.proofs.AcceptedLaws.{accepts_decides}
use Rattle.matrix.specs.Matrix.{Matrix, price}
use Rattle.matrix.specs.Paths.{CostsPass}
use Rattle.outcome.specs.Outcome.{Rival, Best, Outcome}
use Rattle.outcome.proofs.Exhaustive.{decided, decided_outcome}
use Rattle.trellis.specs.Graph.{Way}
use Rattle.trellis.specs.Impossible.{TOP}
use Rattle.trellis.proofs.ImpossibleLaws.{rival_below, below_path}
use Rattle.trellis.specs.CostToGo.{CostToGo}
use Rattle.trellis.specs.BestWay.{WayFrom, BestFrom}
use Rattle.trellis.specs.Extended.{extended}
use Rattle.trellis.proofs.ExtendedLaws.{way_labels}
use Rattle.trellis.proofs.AcceptedLaws.{collapse_way}

-- there is an outcome
pub outcome_exists : {k : ℕ} {A : Automaton} → Proper k A → (M : Matrix) → (o : Option (List ℕ)) × Outcome (Accepts A) M o
outcome_exists {k} {A} proper M =
    let test = accepts_decides A k proper in
    (decided M (accepts A), decided_outcome M (Accepts A) (accepts A) (λ w. (test w).0) (λ w. (test w).1))

-- v is the price of the outcome's path, and TOP where there is none
abbrev pub Pays : Matrix → Option (List ℕ) → ℕ → Type 0
Pays M none v = v ≡ TOP
Pays M (some p) v = (price M p ≡ v) × (v < TOP)

module _ {k : ℕ} {A : Automaton} (proper : Proper k A) (M : Matrix) (wide : M.width ≡ k + 1) (few : M.count ≤ 255) (pass : CostsPass M) where
  -- A rival is a way from state 0, one label for each column, with a price below TOP.

  pub rival_way : (p : List ℕ) → Rival (Accepts A) M p → Way (extended A) 0 p
  rival_way p r = (collapse_way proper p).0 r.word

  below : (p : List ℕ) → Rival (Accepts A) M p → price M p < TOP
  below = rival_below M few (Accepts A)

  pub way_rival : (p : List ℕ) → length p ≡ M.count → Way (extended A) 0 p → price M p < TOP → Rival (Accepts A) M p
  way_rival p l w b =
      record {
        path = record { one_each = l; labels = below_path M pass 0 p (subst (λ n. Each (λ x. x < n) p) (sym wide) (way_labels proper p w)) b };
        word = (collapse_way proper p).1 w;
      }

  module _ {v : ℕ} (togo : CostToGo (extended A) M 0 M.count 0 v) where
    cheaper : (p : List ℕ) → Rival (Accepts A) M p → v ≤ price M p
    cheaper p r = togo.least (price M p) (record { path = p; long = r.path.one_each; way = rival_way p r; paid = refl })

    met : v < TOP → (p : List ℕ) × Rival (Accepts A) M p × (price M p ≡ v)
    met b =
        let w = togo.met b in
        let e = w.paid in
        (w.path, way_rival w.path w.long w.way (omega arith), w.paid)

    -- there is nothing to read exactly if the cost to go is TOP
    pub outcome_none : (v ≡ TOP) ↔ Outcome (Accepts A) M none
    outcome_none = (
      λ e p r. let l = cheaper p r in let b = below p r in omega arith,
      λ f. ⊎_elim (λ b. let m = met b in absurd (f m.0 m.1)) (λ h. let w = togo.within in omega arith) (lt_or_le v TOP),
    )

    -- the best path has the price v
    pub outcome_price : (p : List ℕ) → Best (Accepts A) M p → price M p ≡ v
    outcome_price p b =
        let low = cheaper p b.qualifies in
        let cheap = below p b.qualifies in
        let m = met (omega arith) in
        let e = m.2 in
        let high = b.least m.0 m.1 in
        omega arith

    -- the outcome is told by the cost to go alone
    pub outcome_pays : (o : Option (List ℕ)) → Outcome (Accepts A) M o → Pays M o v
    outcome_pays none h = outcome_none.1 h
    outcome_pays (some p) h = let e = outcome_price p h in let l = below p h.qualifies in (e, omega arith)

    -- the best way is the best rival
    pub outcome_best : v < TOP → (p : List ℕ) → BestFrom (extended A) M 0 M.count (λ s. s ≡ 0) p → Outcome (Accepts A) M (some p)
    outcome_best low p b =
        record {
          qualifies = way_rival p b.qualifies.long (subst (λ s. Way (extended A) s p) b.qualifies.member b.qualifies.way) cheap;
          least = λ a r. b.least a (from a r);
          first = λ a r e. b.first a (from a r) e;
        }
      where
        from : (a : List ℕ) → Rival (Accepts A) M a → WayFrom (extended A) M.count (λ s. s ≡ 0) a
        from a r = record { long = r.path.one_each; from = 0; member = refl; way = rival_way a r }

        cheap : price M p < TOP
        cheap = let m = met low in let e = m.2 in let l = b.least m.0 (from m.0 m.1) in omega arith
