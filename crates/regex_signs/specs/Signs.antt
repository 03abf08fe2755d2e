-- The sign at the front of a text: a byte, or a class with its name, and how many bytes it takes.
use Rattle.std.proofs.Math.Option.{Option, some, none}
use Rattle.std.specs.Prelude.{List, [], ◌∷◌, Bool, cond, ℕ, ◌+◌, length, get_or, drop}
use Rattle.regex_tree.specs.Sets.{Sign, byte, class, class_begins, class_ends}

-- the bytes before the nearest `:]`, or all
unfoldable pub name : List ℕ → List ℕ
name [] = []
name (b ∷ []) = b ∷ []
name (b ∷ (c ∷ s)) = cond (class_ends b c) [] (b ∷ name (c ∷ s))

-- the text begins with `[:`
unfoldable pub opens : List ℕ → Bool
opens s = class_begins (get_or s 0 0) (get_or s 1 0)

abbrev pub sign : List ℕ → Sign
sign s = cond (opens s) (class (name (drop 2 s))) (byte (get_or s 0 0))

abbrev pub sign_width : List ℕ → ℕ
sign_width s = cond (opens s) (2 + (length (name (drop 2 s)) + 2)) 1

-- the signs that were found
abbrev pub signs : Option (List Sign × List ℕ) → List Sign
signs none = []
signs (some x) = x.0
