-- Laws: how far from 0 a difference of two numbers is, and that it fits a signed number of 32 bits.
use Rattle.std.specs.Prelude.{ℕ, zero, suc, ◌-◌, ◌^◌, ◌<◌, ◌≤◌, cond, ◌⊎◌, ℤ, pos, negsuc, nat_abs, ◌-ℤ◌}
use Rattle.std.proofs.Common.{sym, subst, inl, inr, arith, SFits, lt-ltb, le-ltb}
use Rattle.std.proofs.Math.IntN.{sub_ℕ}
use Rattle.std.specs.Int.{w32}
use Rattle.lists.proofs.OrderLaws.{lt_or_le}

-- no further than the greater of the two
pub difference_bound : (a b n : ℕ) → a ≤ n → b ≤ n → nat_abs (pos a -ℤ pos b) ≤ n
difference_bound a zero n h k = omega arith
difference_bound a (suc b) n h k = by (lt_or_le a (suc b))
  where
    by : (a < suc b) ⊎ (suc b ≤ a) → nat_abs (sub_ℕ a (suc b)) ≤ n
    by (inl l) = subst (λ t. nat_abs (cond t (negsuc (suc b - suc a)) (pos (a - suc b))) ≤ n) (sym (lt-ltb a (suc b) l)) (omega arith)
    by (inr l) = subst (λ t. nat_abs (cond t (negsuc (suc b - suc a)) (pos (a - suc b))) ≤ n) (sym (le-ltb a (suc b) l)) (omega arith)

near_fits : (z : ℤ) → nat_abs z < 2 ^ 31 → SFits w32 z
near_fits (pos n) h = record { sfits = h }
near_fits (negsuc n) h = record { sfits = omega arith }

pub difference_fits : (a b : ℕ) → a < 2 ^ 31 → b < 2 ^ 31 → SFits w32 (pos a -ℤ pos b)
difference_fits a b h k = near_fits (pos a -ℤ pos b) (let l = difference_bound a b (2 ^ 31 - 1) (omega arith) (omega arith) in omega arith)
