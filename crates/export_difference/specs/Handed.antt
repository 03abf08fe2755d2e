-- Compare's answer handed back as a number and a list of one difference.
use Rattle.std.specs.Prelude.{ℕ, ◌≡◌, List, [], ◌∷◌, ℤ}
use Rattle.comparison.specs.Comparison.{Comparison}

-- its number, 0 where nothing is refused, and the difference
pub record HandsDifference (answer : Comparison) (handed : List ℤ) (result : ℕ) : Type 0 where
  pub number : result ≡ answer.number
  pub list : handed ≡ answer.difference ∷ []
