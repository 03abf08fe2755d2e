-- What the functions that find a set answer, by the definitions of `regex`.
use Rattle.std.proofs.Math.Option.{Option, some, none}
use Rattle.std.specs.Prelude.{List, [], Bool, true, false, cond, ℕ, ◌+◌, length, get_or, drop, eqb, ltb, Result, Ok, Err}
use Prim.Native.Char.{code}
use Rattle.text.specs.Places.{place}
use Rattle.regex_tree.specs.Tree.{Set, only}
use Rattle.regex_tree.specs.Parsing.{Parsing, found, fault}
use Rattle.regex_tree.specs.Sets.{Sign, Item, members, bracket}
use Rattle.refusal.specs.declared.Refusal.{Refusal}

-- where what was found in the text ends, or the refusal
abbrev pub end_of : {X : Type 0} → List ℕ → Parsing X → Result ℕ Refusal
end_of text (found a r) = Ok (place text r)
end_of text (fault n r) = Err n

-- whether something was found, and the set that was
abbrev pub is_found : {X : Type 0} → Parsing X → Bool
is_found (found a r) = true
is_found (fault n r) = false

abbrev pub set_of : Parsing Set → Set
set_of (found c r) = c
set_of (fault n r) = only []

-- where the first item is, after `[` or `[^`
unfoldable pub opened : List ℕ → ℕ → ℕ
opened text at = cond (eqb (get_or text (at + 1) 0) (code "^")) (at + 2) (at + 1)

-- the text after the closing `]`, if there is one
abbrev pub after : Option (List Sign × List ℕ) → Option (List ℕ)
after none = none
after (some x) = some x.1

-- the text after the byte at e, if that is in the text
unfoldable pub beyond : List ℕ → ℕ → Option (List ℕ)
beyond text e = cond (ltb e (length text)) (some (drop (e + 1) text)) none

-- the items inside, if the bracket is closed and they are well formed
abbrev pub formed : Option (List Sign × List ℕ) → Option (List Item)
formed none = none
formed (some x) = members x.0

-- the bracket that begins at a place
abbrev pub bracket_at : List ℕ → ℕ → Parsing Set
bracket_at text at = bracket (drop at text) (drop (at + 1) text)
