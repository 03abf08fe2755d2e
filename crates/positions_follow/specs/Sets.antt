-- Sets of letters and the follow relation as lists of truth values, a letter's entry at the index below its number: what it means that a
-- set was united with another, and that arcs were added.
use Rattle.std.specs.Prelude.{ℕ, ◌≡◌, Bool, false, ◌&&◌, ◌||◌, List, [], length, get_or}

-- the letter at the index is in the set
abbrev pub member : List Bool → ℕ → Bool
member s i = get_or s i false

-- an arc leads from the letter at index i to the letter at index j
abbrev pub arc : List (List Bool) → ℕ → ℕ → Bool
arc f i j = member (get_or f i []) j

-- the set a became its union with the set b
pub record Union (a b after : List Bool) : Type 0 where
  pub size : length after ≡ length a
  pub at : (i : ℕ) → member after i ≡ (member a i || member b i)

-- an arc was added from each letter of one set to each letter of the other
pub record Linked (from to : List Bool) (before after : List (List Bool)) : Type 0 where
  pub size : length after ≡ length before
  pub at : (i j : ℕ) → arc after i j ≡ (arc before i j || (member from i && member to j))
