-- The cost is what document 01's sentence says: the largest whole n with 2ⁿ × c⁸ ≤ 2⁶⁴.
-- For the reader: nothing uses it.
use Prim.Native.Nat.{ℕ, zero, suc, ◌*◌, ◌^◌, ◌≤◌, ◌<◌}
use Rattle.std.specs.Prelude.{◌≡◌, Bool, ◌⊎◌}
use Rattle.std.proofs.Math.Path.{refl}
use Rattle.std.proofs.Common.{ap, ◌∙◌, inl, inr, ⊎_elim, arith, mul-le-mul, one-mul, pow_mono, leb-true, le-leb, ne_eqb}
use Rattle.std.proofs.Math.Bool.{true, false}
use Rattle.std.proofs.Math.Nat.{pow-le-pow_left}
use Rattle.lists.proofs.OrderLaws.{lt_or_le, eq_or_ne, not_both}
use Rattle.confidence_rule.specs.Cost.{either, largest, within, shift, cost_of}

-- n passes, and nothing larger does
pub record Largest (P : ℕ → Type 0) (n : ℕ) : Type 0 where
  pub passes : P n
  pub most : (m : ℕ) → P m → m ≤ n

module _ (passes : ℕ → Bool) where
  largest_passes : (n : ℕ) → passes 0 ≡ true → passes (largest passes n) ≡ true
  unfolding largest
  largest_passes zero z = z
  largest_passes (suc n) z = by (passes (suc n)) refl (largest_passes n z)
    where
      by : (t : Bool) → passes (suc n) ≡ t → passes (largest passes n) ≡ true → passes (either t (suc n) (largest passes n)) ≡ true
      by true e h = e
      by false e h = h

  largest_most : (n m : ℕ) → m ≤ n → passes m ≡ true → m ≤ largest passes n
  unfolding largest
  largest_most zero m l h = l
  largest_most (suc n) m l h = by (passes (suc n)) refl (eq_or_ne m (suc n)) (λ k. largest_most n m k h)
    where
      by : (t : Bool) → passes (suc n) ≡ t → (m ≡ suc n) ⊎ (m ≡ suc n → ⊥) → (m ≤ n → m ≤ largest passes n) → m ≤ either t (suc n) (largest passes n)
      by true e d f = l
      by false e (inl q) f = absurd (not_both (passes m) h (ap passes q ∙ e))
      by false e (inr q) f = f (omega arith)

-- the rule, for confidences 1 to 255
pub cost_is_largest : (c : ℕ) → 1 ≤ c → c ≤ 255 → Largest (λ n. 2 ^ n * c ^ 8 ≤ 2 ^ 64) (cost_of c)
unfolding cost_of shift
cost_is_largest c low high = rw (ne_eqb c 0 (λ e. omega arith)) (record { passes = leb-true _ _ (largest_passes (within (c ^ 8)) 64 start); most = bounded })
  where
    least : 1 ≤ c ^ 8
    least = pow-le-pow_left low 8

    start : within (c ^ 8) 0 ≡ true
    start = le-leb (2 ^ 0 * c ^ 8) (2 ^ 64) (let h : c ^ 8 ≤ 255 ^ 8 = pow-le-pow_left high 8 in omega (arith, one-mul (c ^ 8)))

    bounded : (m : ℕ) → 2 ^ m * c ^ 8 ≤ 2 ^ 64 → m ≤ largest (within (c ^ 8)) 64
    bounded m h = ⊎_elim large (λ l. largest_most (within (c ^ 8)) 64 m l (le-leb (2 ^ m * c ^ 8) (2 ^ 64) h)) (lt_or_le 64 m)
      where
        large : 64 < m → m ≤ largest (within (c ^ 8)) 64
        large l =
            let p : 2 ^ 65 ≤ 2 ^ m = pow_mono l in
            let q : 2 ^ 65 * 1 ≤ 2 ^ m * c ^ 8 = mul-le-mul p least in
            absurd (omega arith)
