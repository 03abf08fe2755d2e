-- Sums and products counted up to 128.
use Rattle.std.specs.Prelude.{◌≡◌, refl, ℕ, zero, suc, ◌*◌, ◌≤◌, ◌<◌}
use Rattle.std.proofs.Common.{ap, arith, mul-le-mul_right, mul-le-mul_left}
use Rattle.regex_tree.specs.Tree.{onward}
use Rattle.regex_tree.specs.Letters.{copies_of}
use Rattle.regex_tree.proofs.SenseLaws.{few_mul}
use Rattle.regex_tree.specs.Few.{few}

pub few_times : (k n : ℕ) → few (k * few n) ≡ few (k * n)
few_times zero n = omega arith
few_times (suc k) n = few_mul (suc k) n (omega arith)

module _ (k n : ℕ) where
  pub product_none : k ≡ 0 → 0 ≡ few (k * n)
  product_none e = let q : k * n ≡ 0 * n = ap (λ i. i * n) e in omega arith

  pub product_zero : n ≡ 0 → 0 ≡ few (k * n)
  product_zero e = let q : k * n ≡ k * 0 = ap (λ i. k * i) e in omega arith

  pub product_many : 128 ≤ k → (n ≡ 0 → ⊥) → 128 ≡ few (k * n)
  product_many l h = let q : k * 1 ≤ k * n = mul-le-mul_left k (omega arith) in omega arith

  pub product_times : 128 ≤ n → (k ≡ 0 → ⊥) → 128 ≡ few (k * n)
  product_times l h = let q : 1 * n ≤ k * n = mul-le-mul_right n (omega arith) in omega arith

  pub product_small : k < 128 → n < 128 → k * n ≤ 16384
  product_small l h =
      let q : k * n ≤ 128 * n = mul-le-mul_right n (omega arith) in
      omega arith

pub copies_none : (n : ℕ) → n ≡ 0 → 1 ≡ copies_of (onward n)
copies_none zero e = refl
copies_none (suc n) e = absurd (omega arith)

pub copies_some : (n : ℕ) → (n ≡ 0 → ⊥) → n ≡ copies_of (onward n)
copies_some zero e = absurd (e refl)
copies_some (suc n) e = refl
