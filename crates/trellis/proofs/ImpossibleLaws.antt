-- Laws: the price of at most 255 labels of usable costs is below TOP, and so is every rival's; past refusal 13, labels whose price is below TOP
-- have usable costs; with the cost of a barred label a sum is TOP.
use Rattle.std.specs.Prelude.{ℕ, ◌+◌, ◌≤◌, ◌<◌, ◌≡◌, List, [], ◌∷◌, length}
use Rattle.std.proofs.Common.{arith}
use Rattle.lists.specs.Each.{Each}
use Rattle.matrix.specs.Matrix.{Matrix, BARRED, cost, price_from, price}
use Rattle.matrix.specs.Paths.{Usable, PathFrom, CostsPass}
use Rattle.matrix.proofs.PathsLaws.{passing_usable, cost_passes, path_price}
use Rattle.outcome.specs.Outcome.{Rival}
use Rattle.trellis.specs.Impossible.{TOP, plus}

pub plus_barred : (v : ℕ) → plus BARRED v ≡ TOP
plus_barred v = omega arith

module _ (M : Matrix) where
  pub path_below : (t : ℕ) (p : List ℕ) → length p ≤ 255 → PathFrom M t p → price_from M t p < TOP
  path_below t p l h = let r = path_price M t p h in omega arith

  -- so no reading's price has the cost of a barred label in it
  pub rival_below : M.count ≤ 255 → (Word : List ℕ → Type 0) (p : List ℕ) → Rival Word M p → price M p < TOP
  rival_below few Word p r = path_below 0 p (let e = r.path.one_each in omega arith) r.path.labels

  module _ (pass : CostsPass M) where
    cost_usable : (t x : ℕ) → cost M t x < TOP → Usable (cost M t x)
    cost_usable t x h = (passing_usable (cost M t x) (cost_passes M pass t x)).1 (λ e. omega arith)

    pub below_path : (t : ℕ) (p : List ℕ) → Each (λ x. x < M.width) p → price_from M t p < TOP → PathFrom M t p
    below_path t [] e h = tt
    below_path t (x ∷ p) e h = (e.0, cost_usable t x (omega arith), below_path (t + 1) p e.1 (omega arith))
