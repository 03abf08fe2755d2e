-- What it means that parts were put together: one or the other, one and then the other, one again, one or nothing. Index i stands for
-- letter i + 1.
use Rattle.std.specs.Prelude.{ℕ, ◌≡◌, Bool, true, false, ◌&&◌, ◌||◌, List, length}
use Rattle.positions_follow.specs.Sets.{member, arc, Linked}
use Rattle.positions_parts.specs.declared.Built.{Built}

-- the letters of a, and also those of b if `on` is true
unfoldable pub United : List Bool → Bool → List Bool → List Bool → Type 0
United a on b r = (i : ℕ) → member r i ≡ (member a i || on && member b i)

-- a or b
pub record Chosen (a b x : Built) : Type 0 where
  pub ends : x.end ≡ b.end
  pub counts : x.letters ≡ b.letters
  pub nullable : x.nullable ≡ (a.nullable || b.nullable)
  pub first : United a.first true b.first x.first
  pub last : United a.last true b.last x.last

-- a and then b
pub record Joined (a b x : Built) (before after : List (List Bool)) : Type 0 where
  pub ends : x.end ≡ b.end
  pub counts : x.letters ≡ b.letters
  pub nullable : x.nullable ≡ (a.nullable && b.nullable)
  pub first : United a.first a.nullable b.first x.first
  pub last : United b.last b.nullable a.last x.last
  pub arcs : Linked a.last b.first before after

-- an arc was added from each letter of one set to each letter of the other, if `on` is true
pub record Looped (on : Bool) (from to : List Bool) (before after : List (List Bool)) : Type 0 where
  pub size : length after ≡ length before
  pub arcs : (i j : ℕ) → arc after i j ≡ (arc before i j || on && (member from i && member to j))

-- a, or also nothing if `spare` is true; it ends at e
pub record Spared (a : Built) (spare : Bool) (e : ℕ) (x : Built) : Type 0 where
  pub ends : x.end ≡ e
  pub counts : x.letters ≡ a.letters
  pub nullable : x.nullable ≡ (spare || a.nullable)
  pub first : x.first ≡ a.first
  pub last : x.last ≡ a.last

-- a itself; it ends at e
abbrev pub Ended : Built → ℕ → Built → Type 0
Ended a e x = Spared a false e x
