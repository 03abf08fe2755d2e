-- Laws of the matrix: joined paths and their prices.
use Rattle.std.specs.Prelude.{ℕ, suc, ◌+◌, ◌≡◌, List, [], ◌∷◌, ◌++◌, length}
use Rattle.std.proofs.Common.{ap, ◌∙◌, arith}
use Rattle.matrix.specs.Matrix.{Matrix, price_from}
use Rattle.matrix.specs.Paths.{PathFrom}

module _ (M : Matrix) where
  -- the price of joined parts
  pub price_append : (t : ℕ) (p q : List ℕ) → price_from M t (p ++ q) ≡ price_from M t p + price_from M (t + length p) q
  price_append t [] q = let e : t ≡ t + 0 = omega arith in ap (λ k. price_from M k q) e ∙ omega arith
  price_append t (x ∷ p) q =
      let e : t + 1 + length p ≡ t + suc (length p) = omega arith in
      let h = price_append (t + 1) p q ∙ ap (λ k. price_from M (t + 1) p + price_from M k q) e in
      omega arith

  pub path_append : (t : ℕ) (p q : List ℕ) → PathFrom M t p → PathFrom M (t + length p) q → PathFrom M t (p ++ q)
  path_append t [] q h g = let e : t + 0 ≡ t = omega arith in rw e at g
  path_append t (x ∷ p) q h g =
      let e : t + suc (length p) ≡ t + 1 + length p = omega arith in
      (h.0, h.1, path_append (t + 1) p q h.2 (rw e at g))
