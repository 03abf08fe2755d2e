-- Laws of an element that is stored only if a test holds.
use Rattle.std.specs.Prelude.{ℕ, ◌+◌, ◌<◌, ◌≤◌, ◌≡◌, refl, Bool, true, false, List, [], length, set}
use Rattle.std.proofs.Common.{ap, arith}
use Rattle.lists.specs.Lists.{keeping}
use Rattle.lists.specs.Stored.{Stored}

-- Element w at place n, stored or left out.
module _ (w n : ℕ) (form : List ℕ) where
  pub kept_stored : (t : Bool) (v : ℕ) → t ≡ true → v ≡ w → Stored (keeping t w []) n form (set form n v) (n + 1)
  kept_stored t v e q = rw (e, q) (record { next = refl; memory = refl })

  pub kept_absent : (t : Bool) → t ≡ false → Stored (keeping t w []) n form form n
  kept_absent t e = rw e (record { next = omega arith; memory = refl })

  pub kept_room : (t : Bool) → t ≡ true → n + length (keeping t w []) ≤ length form → n < length form
  kept_room t e h = let l = ap (λ b. length (keeping b w [])) e in omega arith
