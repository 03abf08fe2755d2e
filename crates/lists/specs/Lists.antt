-- The words on lists and numbers that promises use.
use Rattle.std.specs.Prelude.{Bool, true, ◌&&◌, false, List, [], ◌∷◌, ◌≡◌, ◌⊎◌, ℕ, zero, suc, ◌<◌, eqb, leb, get_or}
use Rattle.lists.specs.Each.{Each}
-- the test holds of some element: the library's word
pub use Rattle.std.specs.List.{list_any as any}

module _ {A : Type 0} where
  -- `a` is an element of the list
  abbrev pub Among : A → List A → Type 0
  Among a [] = ⊥
  Among a (x ∷ xs) = (a ≡ x) ⊎ Among a xs

  -- x before xs, or xs alone
  abbrev pub keeping : Bool → A → List A → List A
  keeping true x xs = x ∷ xs
  keeping false x xs = xs

  -- the elements that pass the test
  unfoldable pub keep : (A → Bool) → List A → List A
  keep p [] = []
  keep p (x ∷ xs) = keeping (p x) x (keep p xs)

-- the two lists are the same
abbrev pub same_list : List ℕ → List ℕ → Bool
same_list [] [] = true
same_list [] (y ∷ q) = false
same_list (x ∷ p) [] = false
same_list (x ∷ p) (y ∷ q) = eqb x y && same_list p q

-- n is from `low` to `high`, both included
abbrev pub in_range : (low high n : ℕ) → Bool
in_range low high n = leb low n && leb n high

-- the n numbers from a on
unfoldable pub numbers : ℕ → ℕ → List ℕ
numbers a zero = []
numbers a (suc n) = a ∷ numbers (suc a) n

-- the lowest of the numbers 1 to n that passes the test, or 0 if none does
abbrev pub lowest : (ℕ → Bool) → ℕ → ℕ
lowest p n = get_or (keep p (numbers 1 n)) 0 0

-- each element is below all elements after it
abbrev pub Ascending : List ℕ → Type 0
Ascending [] = Unit {0}
Ascending (x ∷ xs) = Each (λ y. x < y) xs × Ascending xs

-- each element differs from all elements after it
abbrev pub Distinct : {A : Type 0} → List A → Type 0
Distinct [] = Unit {0}
Distinct {A} (x ∷ xs) = Each (λ (y : A). x ≡ y → ⊥) xs × Distinct xs
