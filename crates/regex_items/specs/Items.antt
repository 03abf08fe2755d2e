-- The item at the front of a text inside a bracket: what it is, how many bytes it takes, and whether it is allowed there.
use Rattle.std.specs.Prelude.{◌≡◌, List, [], ◌∷◌, Bool, true, false, cond, not, ◌&&◌, ◌||◌, ℕ, get_or, drop, eqb, leb}
use Rattle.std.proofs.Math.Option.{Option, some, none}
use Prim.Native.Char.{code}
use Rattle.lists.specs.Options.{is_some}
use Rattle.text.specs.Bytes.{bytes}
use Rattle.text.specs.Text.{next_of}
use Rattle.regex_tree.specs.Tree.{Range, range}
use Rattle.regex_tree.specs.Sets.{Item, ranged, classed, begins, closed, items, ranges_of}
use Rattle.regex_signs.specs.Signs.{name, opens, sign_width, signs}

-- a range: a byte, `-` and a sign other than the closing `]`
unfoldable pub ranges : List ℕ → Bool
ranges s = eqb (get_or s 1 0) (code "-") && not (eqb (get_or s 2 0) (code "]"))

-- its last byte
unfoldable pub upto : List ℕ → ℕ
upto s = cond (ranges s) (get_or s 2 0) (get_or s 0 0)

unfoldable pub item : List ℕ → Item
item s = cond (opens s) (classed (name (drop 2 s))) (ranged (range (get_or s 0 0) (upto s)))

-- how many bytes it takes
unfoldable pub width : List ℕ → ℕ
width s = cond (ranges s) 3 (sign_width s)

-- a range does not end in a class and does not descend
unfoldable pub range_fits : List ℕ → Bool
range_fits s = not (ranges s) || (not (opens (drop 2 s)) && leb (get_or s 0 0) (get_or s 2 0))

-- it is allowed here: it is a class, or it is just before the closing `]`, or it begins as an item may and its range fits
unfoldable pub fits : Bool → List ℕ → Bool
fits first s = opens s || (eqb (get_or s 1 0) (code "]") || (begins first (get_or s 0 0) && range_fits s))

-- At a place of the text, where the first sign inside is at `first`: the bracket is closed after it.
abbrev pub Closing : List ℕ → ℕ → ℕ → Type 0
Closing text first at = is_some (closed (eqb at first) (drop at text)) ≡ true

-- the items from there on
abbrev pub left : List ℕ → ℕ → ℕ → Option (List Item)
left text first at = items (eqb at first) (signs (closed (eqb at first) (drop at text)))

-- their ranges, if each class has a known name
abbrev pub resolved : Option (List Item) → Option (List Range)
resolved none = none
resolved (some is) = ranges_of is

-- `[.` or `[=` begins here
unfoldable pub reserves : List ℕ → Bool
reserves [] = false
reserves (b ∷ s) = eqb b (code "[") && next_of (bytes ".=") s
