-- What a lent list holds, as contracts say it: before and after the call, and what a function wrote into it.
use Rattle.std.specs.Borrow.{Bor}
use denote.Triple.Both.{Both}
use Rattle.std.specs.Prelude.{ℕ, ◌≡◌, List, ◌++◌, length, drop}

-- what it holds when the function is called
abbrev pub old : {X Y : Type 0} → Both (Bor X) Y → X
old x = x.entry.now

-- what it holds when the function returns
abbrev pub new : {X Y : Type 0} → Both Y (Bor X) → X
new x = x.exit.now

module _ {A : Type 0} where
  -- the list w at the front, and after it the memory as it was
  unfoldable pub written : List A → List A → List A
  written w m = w ++ drop (length w) m

  -- a function wrote the list w to the front of lent memory and returned its length
  pub record Wrote (w before after : List A) (answer : ℕ) : Type 0 where
    pub count : answer ≡ length w
    pub memory : after ≡ written w before
