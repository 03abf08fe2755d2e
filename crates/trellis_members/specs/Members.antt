-- A set of states as truth values, and a list of its members beside it.
use Rattle.std.specs.Prelude.{ℕ, suc, ◌<◌, ◌≡◌, Bool, true, false, List, [], ◌∷◌, length, get_or}
use Rattle.lists.specs.Marks.{Has, Listed}

-- the number of true values
unfoldable pub trues : List Bool → ℕ
trues [] = 0
trues (true ∷ s) = suc (trues s)
trues (false ∷ s) = trues s

-- the first n elements of the list are the members of the set, each of them once
pub record Members (set : List Bool) (list : List ℕ) (n : ℕ) : Type 0 where
  pub size : length set ≡ 255
  pub room : length list ≡ 256
  pub number : n ≡ trues set
  pub has : (k : ℕ) → k < n → Has set (get_or list k 0)
  pub all : (u : ℕ) → Has set u → Listed list n u

-- a list of the members of a set, each of them once
pub record Lists (set : List Bool) (list : List ℕ) : Type 0 where
  pub number : length list ≡ trues set
  pub has : (k : ℕ) → k < length list → Has set (get_or list k 0)
  pub all : (u : ℕ) → Has set u → Listed list (length list) u

-- no member
abbrev pub IsEmpty : List Bool → Type 0
IsEmpty set = (u : ℕ) → Has set u → ⊥

-- the place u and no other
abbrev pub Just : (u k : ℕ) → Type 0
Just u k = k ≡ u

-- the same, if it fits; else no place
abbrev pub JustIf : (fits : Bool) → (u k : ℕ) → Type 0
JustIf fits u k = (fits ≡ true) × Just u k
