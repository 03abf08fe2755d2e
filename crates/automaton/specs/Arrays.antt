-- An automaton that is given by arrays, one entry for each letter: which automaton the arrays stand for, when they tell a given one, and
-- when they are long enough.
use Rattle.std.specs.Prelude.{ℕ, ◌-◌, ◌≤◌, ◌≡◌, Bool, false, ◌&&◌, List, [], ◌∷◌, get_or, length, leb}
use Rattle.lists.specs.Lists.{in_range}
use Rattle.automaton.specs.Automaton.{Automaton}

-- the letter is in the set: its entry is at the index below its number
abbrev pub has : List Bool → ℕ → Bool
has s j = get_or s (j - 1) false

-- The automaton that arrays stand for. Given are the number of letters; whether the empty word is accepted; the label of each letter; which
-- letters may be first, and which last; and for each letter those that may follow it. Entries past the last letter mean nothing.
unfoldable pub arrayed : ℕ → Bool → List ℕ → List Bool → List Bool → List (List Bool) → Automaton
arrayed l empty labels first last follow = record {
  letters = l;
  label = λ j. get_or labels (j - 1) 0;
  follow = λ i j. leb i l && in_range 1 l j && has (get_or (first ∷ follow) i []) j;
  ends = λ i. leb i l && get_or (empty ∷ last) i false;
}

-- What the arrays say of each letter is what the automaton A says.
pub record Tells (A : Automaton) (empty : Bool) (labels : List ℕ) (first last : List Bool) (follow : List (List Bool)) : Type 0 where
  pub accepted : A.ends 0 ≡ empty
  pub label : (j : ℕ) → 1 ≤ j → j ≤ A.letters → A.label j ≡ get_or labels (j - 1) 0
  pub begins : (j : ℕ) → 1 ≤ j → j ≤ A.letters → A.follow 0 j ≡ has first j
  pub ends : (i : ℕ) → 1 ≤ i → i ≤ A.letters → A.ends i ≡ has last i
  pub arc : (i j : ℕ) → 1 ≤ i → i ≤ A.letters → 1 ≤ j → j ≤ A.letters → A.follow i j ≡ has (get_or follow (i - 1) []) j

-- The arrays have an entry for each of l letters; l is at most 127, and k, the size of the alphabet, at most 95.
pub record Sized (k l : ℕ) (labels : List ℕ) (first last : List Bool) (follow : List (List Bool)) : Type 0 where
  pub alphabet : k ≤ 95
  pub few : l ≤ 127
  pub labelled : l ≤ length labels
  pub begun : l ≤ length first
  pub ended : l ≤ length last
  pub followers : l ≤ length follow
