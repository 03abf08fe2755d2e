-- The largest shift, by the zeros before the first 1.
use Rattle.std.specs.Prelude.{ℕ, zero, suc, ◌+◌, ◌*◌, ◌-◌, ◌^◌, ◌≤◌, ◌<◌, ◌≡◌}
use Rattle.std.proofs.Common.{sym, ap, ◌∙◌, arith, pow-suc, pow-add, pow_mono, pow_pos}
use Rattle.std.proofs.lemmas.Nat.{leading_length}
use lib.Count.{count_leading_zeros}
use Rattle.confidence_rule.specs.Cost.{largest, within, shift}
use Rattle.confidence_rule.proofs.Loops.{shift_found, shift_past}

whole : (n m : ℕ) → n + m ≡ 64 → 2 ^ n * 2 ^ m ≡ 2 ^ 64
whole n m e = sym (pow-add 2 n m) ∙ ap (λ k. 2 ^ k) e

-- no number above n passes, if 2⁶³⁻ⁿ is too little for p
shift_down : (p n d : ℕ) → n + d ≤ 64 → 2 ^ (64 - n) ≤ 2 * (p - 1) + 1 → largest (within p) (n + d) ≡ largest (within p) n
shift_down p n zero h l = let e : n + 0 ≡ n = omega arith in ap (largest (within p)) e
shift_down p n (suc d) h l =
    let k = 63 - (n + d) in
    let double = pow-suc 2 k in
    let some = pow_pos k in
    let smaller : 2 ^ suc k ≤ 2 ^ (64 - n) = pow_mono (omega arith) in
    let last : n + suc d ≡ suc (n + d) = omega arith in
    let before : suc (n + d) - 1 ≡ n + d = omega arith in
    ap (largest (within p)) last
    ∙ shift_past p (suc (n + d)) (2 ^ k) (omega arith) (whole (suc (n + d)) k (omega arith)) (omega arith)
    ∙ ap (largest (within p)) before
    ∙ shift_down p n d (omega arith) l

pub shift_zeros : (p : ℕ) → p - 1 < 2 ^ 64 → count_leading_zeros 64 (p - 1) ≡ shift p
unfolding shift
shift_zeros p h =
    let n = count_leading_zeros 64 (p - 1) in
    let bits = leading_length 64 (p - 1) h in
    let m = bits.0 in
    let e : n + m ≡ 64 = bits.1 in
    let short : p - 1 < 2 ^ m = bits.2 in
    let long : 2 ^ m ≤ 2 * (p - 1) + 1 = bits.3 in
    let left : 64 - n ≡ m = omega arith in
    sym (ap (largest (within p)) (sym e) ∙ shift_down p n m (omega arith) (rw left long) ∙ shift_found p n (2 ^ m) (whole n m e) (omega arith))
