-- Laws of the part of a list from place a up to place e.
use Rattle.std.specs.Prelude.{ℕ, ◌+◌, ◌-◌, ◌<◌, ◌≤◌, ◌≡◌, List, length, get_or, take, drop}
use Rattle.std.proofs.Common.{◌∙◌, arith, length-drop, get_or-take, get_or-drop, length-take-le}

module _ {A : Type 0} (xs : List A) (a e : ℕ) where
  pub part_at : (d : A) (i : ℕ) → a + i < e → get_or (take (e - a) (drop a xs)) i d ≡ get_or xs (a + i) d
  part_at d i h = get_or-take (e - a) (drop a xs) i d (omega arith) ∙ get_or-drop a xs i d

  pub part_length : e ≤ length xs → length (take (e - a) (drop a xs)) ≡ e - a
  part_length h = length-take-le (e - a) (drop a xs) (omega (arith, length-drop a xs))
