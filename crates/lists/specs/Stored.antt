-- Lent memory of which a part was written: from a place on, or between two places.
use Rattle.std.specs.Prelude.{ℕ, ◌+◌, ◌≡◌, List, length, drop, take}
use Rattle.std.proofs.lemmas.List.Edits.{sets}

module _ {A : Type 0} where
  -- a function stored the elements c from place n on and returned the next place
  pub record Stored (c : List A) (n : ℕ) (before after : List A) (answer : ℕ) : Type 0 where
    pub next : answer ≡ n + length c
    pub memory : after ≡ sets before n c

  -- nothing was written before place a, and nothing from place b on
  pub record Outside (a b : ℕ) (before after : List A) : Type 0 where
    pub size : length after ≡ length before
    pub front : take a after ≡ take a before
    pub beyond : drop b after ≡ drop b before
