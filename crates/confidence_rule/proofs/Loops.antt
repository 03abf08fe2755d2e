-- What each step of the code computes, over plain numbers.
use Rattle.std.specs.Prelude.{ℕ, zero, suc, ◌+◌, ◌*◌, ◌-◌, ◌^◌, ◌≤◌, ◌<◌, ◌≡◌, refl}
use Rattle.std.proofs.Common.{sym, ap, ap₂, ◌∙◌, arith, mul-le-mul_left, mul-le-mul_right, mul_comm, mul_assoc, pow-suc, one-mul, pow_pos, pow_mono, pow-add, le-leb, ne_eqb}
use Rattle.std.proofs.Math.Nat.{mul-lt-mul_of_pos_left, pow-le-pow_left, pow-zero}
use Rattle.std.proofs.lemmas.Bool.{lt-leb}
use Rattle.confidence_rule.specs.Cost.{either, largest, within, shift, cost_of}

-- Squares.

pub first_power : (c : ℕ) → c ≡ c ^ 1
first_power c = sym (pow-suc c 0 ∙ ap (λ k. k * c) (pow-zero c) ∙ one-mul c)

pub square_of : (c n m : ℕ) → m ≡ c ^ n → m * m ≡ c ^ (n + n)
square_of c n m e = ap₂ ◌*◌ e e ∙ sym (pow-add c n n)

pub power_small : (c n m : ℕ) → c ≤ 255 → m ≡ c ^ n → m ≤ 255 ^ n
power_small c n m h e = rw e (pow-le-pow_left h n)

-- The search for the shift, from 64 down: `limit` is 2⁶⁴⁻ⁿ.

pub shift_found : (p n limit : ℕ) → 2 ^ n * limit ≡ 2 ^ 64 → p ≤ limit → largest (within p) n ≡ n
unfolding largest
shift_found p zero limit e h = refl
shift_found p (suc n) limit e h =
    let l : 2 ^ suc n * p ≤ 2 ^ 64 = rw e at (mul-le-mul_left (2 ^ suc n) h) in
    ap (λ t. either t (suc n) (largest (within p) n)) (le-leb (2 ^ suc n * p) (2 ^ 64) l)

pub shift_past : (p n limit : ℕ) → 1 ≤ n → 2 ^ n * limit ≡ 2 ^ 64 → limit < p → largest (within p) n ≡ largest (within p) (n - 1)
unfolding largest
shift_past p zero limit l e h = absurd (omega arith)
shift_past p (suc n) limit l e h =
    let k : 2 ^ 64 < 2 ^ suc n * p = rw e at (mul-lt-mul_of_pos_left h (pow_pos (suc n))) in
    let m : suc n - 1 ≡ n = omega arith in
    ap (λ t. either t (suc n) (largest (within p) n)) (lt-leb (2 ^ suc n * p) (2 ^ 64) k) ∙ ap (largest (within p)) (sym m)

pub shift_one : (p limit : ℕ) → 2 ^ 1 * limit ≡ 2 ^ 64 → limit < p → largest (within p) 1 ≡ 0
unfolding largest
shift_one p limit e h = shift_past p 1 limit (omega arith) e h

pub limit_doubled : (n limit : ℕ) → 1 ≤ n → 2 ^ n * limit ≡ 2 ^ 64 → 2 ^ (n - 1) * (limit * 2) ≡ 2 ^ 64
limit_doubled zero limit l e = absurd (omega arith)
limit_doubled (suc n) limit l e =
    let m : suc n - 1 ≡ n = omega arith in
    ap (λ k. 2 ^ k * (limit * 2)) m ∙ ap (λ k. 2 ^ n * k) (mul_comm limit 2) ∙ sym (mul_assoc (2 ^ n) 2 limit) ∙ ap (λ k. k * limit) (sym (pow-suc 2 n)) ∙ e

-- until n is 1, the doubled limit fits 64 bits
pub limit_small : (n limit : ℕ) → 2 ≤ n → 2 ^ n * limit ≡ 2 ^ 64 → limit * 2 < 2 ^ 64
limit_small n limit l e =
    let a : 2 ^ 2 ≤ 2 ^ n = pow_mono l in
    let b : 4 * limit ≤ 2 ^ n * limit = mul-le-mul_right limit a in
    omega arith

-- The cost.

pub cost_more : (c p : ℕ) → (c ≡ 0 → ⊥) → p ≡ c ^ 8 → cost_of c ≡ shift p
unfolding cost_of
cost_more c p n e = rw (ne_eqb c 0 n, e)
