-- Labels that are replaced by their characters, in place.
use Rattle.std.specs.Prelude.{ℕ, ◌≤◌, ◌≡◌, List, length, take}
use Rattle.lists.specs.Each.{Each}
use Rattle.lists.specs.Memory.{written}
use Rattle.alphabet.specs.Labels.{Label, characters}

-- the first n elements are labels of the alphabet A
pub record Labels (A word : List ℕ) (n : ℕ) : Type 0 where
  pub room : n ≤ length word
  pub each : Each (Label A) (take n word)

abbrev pub Spelt : (A : List ℕ) (n : ℕ) (before after : List ℕ) → Type 0
Spelt A n before after = after ≡ written (characters A (take n before)) before
