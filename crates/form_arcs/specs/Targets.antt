-- The targets of a form's words, as bytes.
use Rattle.std.specs.Prelude.{ℕ, ◌<◌, ◌≤◌, ◌≡◌, List, length, get_or}
use Rattle.lists.specs.Stored.{Outside}
use Rattle.automaton.specs.Form.{target}

-- the list begins with the target of each word
pub record Targets (f ts : List ℕ) : Type 0 where
  pub long : length f ≤ length ts
  pub is : (k : ℕ) → k < length f → get_or ts k 0 ≡ target (get_or f k 0)

-- the targets of the words below n were written, and nothing else
pub record TargetsBelow (f before after : List ℕ) (n : ℕ) : Type 0 where
  pub is : (k : ℕ) → k < n → get_or after k 0 ≡ target (get_or f k 0)
  pub outside : Outside 0 n before after

-- the targets of all words
abbrev pub TargetsListed : (f before after : List ℕ) → Type 0
TargetsListed f before after = TargetsBelow f before after (length f)
