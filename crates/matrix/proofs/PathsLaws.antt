-- Laws of paths: past refusal 13 a path is exactly a list of labels of the matrix, none of them barred in its column; no path uses a barred
-- label, so its price is small.
use Rattle.std.specs.Prelude.{ℕ, ◌+◌, ◌*◌, ◌≤◌, ◌<◌, ◌≡◌, List, [], ◌∷◌, ◌↔◌, length}
use Rattle.std.proofs.Common.{inl, inr, arith}
use Rattle.lists.specs.Each.{Each}
use Rattle.lists.proofs.EachLaws.{each_anywhere}
use Rattle.matrix.specs.Matrix.{Matrix, BARRED, cost, price_from}
use Rattle.matrix.specs.Barred.{UnbarredFrom, NoneBarred}
use Rattle.matrix.specs.Paths.{Usable, PathFrom, Passing, CostsPass}

-- a cost that passes is usable exactly if it is not that of a barred label
pub passing_usable : (c : ℕ) → Passing c → Usable c ↔ (c ≡ BARRED → ⊥)
passing_usable c (inl h) = (λ u e. omega arith, λ n. h)
passing_usable c (inr e) = (λ u f. omega arith, λ n. absurd (n e))

-- past the list's end a cost counts as 0, which passes and is not barred
pub cost_passes : (M : Matrix) → CostsPass M → (t x : ℕ) → Passing (cost M t x)
cost_passes M pass t x = each_anywhere Passing 0 M.costs (t * M.width + x) (inl (omega arith)) pass

pub none_barred : (M : Matrix) → NoneBarred M → (t : ℕ) (p : List ℕ) → UnbarredFrom M t p
none_barred M none t [] = tt
none_barred M none t (x ∷ p) = (
  each_anywhere (λ c. c ≡ BARRED → ⊥) 0 M.costs (t * M.width + x) (λ e. omega arith) none,
  none_barred M none (t + 1) p,
)

module _ (M : Matrix) where
  pub path_labels : (t : ℕ) (p : List ℕ) → PathFrom M t p → Each (λ x. x < M.width) p
  path_labels t [] h = tt
  path_labels t (x ∷ p) h = (h.0, path_labels (t + 1) p h.2)

  -- no path uses a barred label, whatever the other costs are
  pub path_unbarred : (t : ℕ) (p : List ℕ) → PathFrom M t p → UnbarredFrom M t p
  path_unbarred t [] h = tt
  path_unbarred t (x ∷ p) h = (λ e. let u = h.1 in omega arith, path_unbarred (t + 1) p h.2)

  pub path_price : (t : ℕ) (p : List ℕ) → PathFrom M t p → price_from M t p ≤ length p * 1000000
  path_price t [] h = omega arith
  path_price t (x ∷ p) h = let u = h.1 in let r = path_price (t + 1) p h.2 in omega arith

  pub unbarred_path : CostsPass M → (t : ℕ) (p : List ℕ) → Each (λ x. x < M.width) p → UnbarredFrom M t p → PathFrom M t p
  unbarred_path pass t [] h u = tt
  unbarred_path pass t (x ∷ p) h u = (
    h.0,
    (passing_usable (cost M t x) (cost_passes M pass t x)).1 u.0,
    unbarred_path pass (t + 1) p h.1 u.1,
  )
