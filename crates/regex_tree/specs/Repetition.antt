-- A repetition, as a count of words (document 01, "Expression text"): "`*`, `+`, `?`, `{n}`, `{n,}`, `{n,m}`; counts have 1 to 3
-- digits, each is at most 255, n ≤ m, and m (or the n of `{n}`) is at least 1."
use Rattle.std.proofs.Math.Option.{Option, some, none}
use Rattle.std.specs.Prelude.{List, [], ◌∷◌, Bool, true, false, ◌&&◌, ℕ, length, eqb, leb}
use Prim.Native.Char.{code}
use Rattle.refusal.specs.declared.Refusal.TheVariants as refusal
use Rattle.text.specs.Bytes.{bytes}
use Rattle.regex_tree.specs.Tree.{Count, between, onward}
use Rattle.regex_tree.specs.Parsing.{Parsing, found, fault, then, enclosed}
use Rattle.text.specs.Text.{next, next_of, rest, split}
use Rattle.lists.specs.Cases.{when, first_of, provided}
use Rattle.text.specs.Digits.{digits, value}

-- 1 to 3 digits, at most 255
unfoldable pub number : List ℕ → Option ℕ
number s = provided (digits s && leb 1 (length s) && leb (length s) 3 && leb (value 0 s) 255) (some (value 0 s))

-- `{n,}`
unfoldable pub from_on : Option ℕ → Option Count
from_on none = none
from_on (some n) = some (onward n)

-- `{n,m}`, and `{n}` with m = n
unfoldable pub from_to : Option ℕ → Option ℕ → Option Count
from_to none _ = none
from_to (some n) none = none
from_to (some n) (some m) = provided (leb n m && leb 1 m) (some (between n m))

-- what is before the comma, and what is after it
unfoldable pub comma : List ℕ → List ℕ → Option Count
comma n [] = from_on (number n)
comma n (b ∷ m) = from_to (number n) (number (b ∷ m))

-- what is in the braces
unfoldable pub counts : List ℕ → Option Count
counts i = elim (split "," i) [ none ↦ from_to (number i) (number i) | some x ↦ comma x.0 x.1 ]

-- a repetition begins here
abbrev pub repeats : List ℕ → Bool
repeats s = next_of (bytes "*+?{") s

-- Refusal 6: "braces ill-formed or out of range", at the `{`.
unfoldable pub sign : List ℕ → Parsing Count
sign [] = fault refusal.MisplacedSign []
sign (b ∷ s) =
    first_of
    (when (eqb b (code "*")) (found (onward 0) s)
    ∷ when (eqb b (code "+")) (found (onward 1) s)
    ∷ when (eqb b (code "?")) (found (between 0 1) s)
    ∷ when (eqb b (code "{")) (enclosed refusal.Count (b ∷ s) counts (split "}" s))
    ∷ [])
    (fault refusal.MisplacedSign (b ∷ s))

-- "One `?` may follow any repetition (the 2024 modifier); it leaves the set of words unaltered."
unfoldable pub repetition : List ℕ → Parsing Count
repetition s = then (sign s) (λ c r. elim (next "?" r) [ true ↦ found c (rest r) | false ↦ found c r ])
