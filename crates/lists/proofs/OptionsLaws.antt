-- What was found, if something was.
use Rattle.std.specs.Prelude.{◌≡◌, refl, true, false, ℕ}
use Rattle.std.proofs.Math.Option.{Option, some, none}
use Rattle.std.proofs.Common.{arith}
use Rattle.lists.specs.Options.{is_some}

module _ {X : Type 0} where
  pub some_found : (x : Option X) → is_some x ≡ true → (a : X) × (x ≡ some a)
  some_found none e = let z : ◌≡◌ {A = ℕ} 0 1 = cc in absurd (omega arith)
  some_found (some a) e = (a, refl)

  pub none_found : (x : Option X) → is_some x ≡ false → x ≡ none
  none_found none e = refl
  none_found (some a) e = let z : ◌≡◌ {A = ℕ} 0 1 = cc in absurd (omega arith)
