-- What holds of each element of a list, as a fact, and as a test: the library's.
use Rattle.std.specs.Prelude.{List, [], ◌∷◌}
-- the test holds of each element
pub use Rattle.std.specs.List.{list_all as all}

module _ {A : Type 0} where
  -- the fact holds of each element
  abbrev pub Each : (A → Type 0) → List A → Type 0
  Each P [] = Unit {0}
  Each P (x ∷ xs) = P x × Each P xs
