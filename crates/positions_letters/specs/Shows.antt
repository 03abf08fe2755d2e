-- What the arrays of a part that was built say of its letters. Index i stands for letter i + 1.
use Rattle.std.specs.Prelude.{ℕ, suc, ◌≡◌, Bool, ◌||◌, List, length}
use Rattle.lists.specs.Stored.{Stored}
use Rattle.positions_follow.specs.Sets.{member, arc}
use Rattle.positions.specs.Opened.{Opened, labels}
use Rattle.positions.specs.Numbered.{Positions, numbered}
use Rattle.positions_parts.specs.declared.Built.{Built}

-- The arrays show the positions p: the part x says whether the empty word is a word and which letters are first and last, and the follow
-- relation has the arcs of p and those that it had before.
pub record Shows (p : Positions) (x : Built) (before after : List (List Bool)) : Type 0 where
  pub nullable : x.nullable ≡ p.nullable
  pub first : (i : ℕ) → member x.first i ≡ p.first (suc i)
  pub last : (i : ℕ) → member x.last i ≡ p.last (suc i)
  pub size : length after ≡ length before
  pub arcs : (i j : ℕ) → arc after i j ≡ (arc before i j || p.follow (suc i) (suc j))

-- The opened expression r was built after n letters: it ends at e, its labels were stored in their places and nowhere else, and the
-- arrays show its positions.
pub record Builds (n : ℕ) (r : Opened) (e : ℕ) (before after : List (List Bool)) (old new : List ℕ) (x : Built) : Type 0 where
  pub ends : x.end ≡ e
  pub stored : Stored (labels r) n old new x.letters
  pub shows : Shows (numbered (suc n) r) x before after
