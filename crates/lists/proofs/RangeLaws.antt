-- Laws of `in_range`: a number below, above or inside a range.
use Rattle.std.specs.Prelude.{ℕ, ◌<◌, ◌≤◌, ◌≡◌, true, false, leb}
use Rattle.std.proofs.Math.Bool.{and-false}
use Rattle.std.proofs.Common.{le-leb, leb-true}
use Rattle.std.proofs.lemmas.Bool.{lt-leb}
use Rattle.lists.proofs.OrderLaws.{and_both, and_left, and_right}
use Rattle.lists.specs.Lists.{in_range}

module _ (low high n : ℕ) where
  pub range_below : n < low → in_range low high n ≡ false
  range_below h = rw (lt-leb low n h)

  pub range_above : high < n → in_range low high n ≡ false
  range_above h = rw (lt-leb n high h) (and-false (leb low n))

  pub range_inside : low ≤ n → n ≤ high → in_range low high n ≡ true
  range_inside l h = and_both (leb low n) (leb n high) (le-leb low n l) (le-leb n high h)

  pub range_true : in_range low high n ≡ true → (low ≤ n) × (n ≤ high)
  range_true e = (leb-true low n (and_left (leb low n) (leb n high) e), leb-true n high (and_right (leb low n) (leb n high) e))
