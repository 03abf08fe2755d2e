-- What holds of the words of a valid form, index by index.
use Rattle.std.specs.Prelude.{ℕ, ◌<◌, ◌≤◌, List, length, get_or}
use Rattle.automaton.specs.Form.{letters_of, alphabet_of}
use Rattle.automaton.specs.WordsLaws.{Head, Letter, Arc}

-- the head, the letters and the arcs are well formed, and the arcs ascend
pub record Valid (f : List ℕ) : Type 0 where
  pub head : Head (get_or f 0 0)
  pub long : letters_of f < length f
  pub letter : (i : ℕ) → 1 ≤ i → i ≤ letters_of f → Letter (alphabet_of f) (get_or f i 0)
  pub arc : (n : ℕ) → letters_of f < n → n < length f → Arc (letters_of f) (get_or f n 0)
  pub ascends : (m n : ℕ) → letters_of f < m → m < n → n < length f → get_or f m 0 < get_or f n 0
