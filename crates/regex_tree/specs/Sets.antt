-- An ordinary character, `.` or a bracket, as a set of bytes (document 01, "Expression text"; document 02, T-01).
use Rattle.std.proofs.Math.Option.{Option, some, none}
use mathlib.Core.List.{List, [], ◌∷◌, ◌++◌, flat_map}
use Rattle.std.specs.Prelude.{Bool, true, false, not, ◌&&◌, ◌||◌, ℕ, eqb, leb}
use Prim.Native.Char.{code}
use Rattle.refusal.specs.declared.Refusal.TheVariants as refusal
use Rattle.text.specs.Bytes.{bytes}
use Rattle.regex_tree.specs.Tree.{Range, range, Set, only, except}
use Rattle.regex_tree.specs.Classes.{class_ranges}
use Rattle.regex_tree.specs.Letters.{labels_of}
use Rattle.regex_tree.specs.Parsing.{Parsing, found, fault, then, enclosed}
use Rattle.text.specs.Text.{one_of, next, next_of, rest, in_front}
use Rattle.lists.specs.Cases.{when, first_of, provided}

-- What the items of a bracket are written with: a byte, or a class, `[:`, its name and `:]`.
pub data Sign : Type 0 where
  byte : ℕ → Sign
  class : List ℕ → Sign

abbrev pub class_begins : ℕ → ℕ → Bool
class_begins b c = eqb b (code "[") && eqb c (code ":")

abbrev pub class_ends : ℕ → ℕ → Bool
class_ends b c = eqb b (code ":") && eqb c (code "]")

-- "Then items up to a closing `]`; a `]` as first item is ordinary."
abbrev pub closes : Bool → ℕ → Bool
closes first b = not first && eqb b (code "]")

-- The signs up to the closing `]` and the text after it, from the first sign or a later one on; or from within a class on, after the bytes
-- n of its name. The name is what is before the nearest `:]`, so a `]` in it closes nothing.
unfoldable mutual
  pub closed : Bool → List ℕ → Option (List Sign × List ℕ)
  closed first [] = none
  closed first (b ∷ []) = provided (closes first b) (some ([], []))
  closed first (b ∷ (c ∷ s)) = elim (closes first b) [
    | true ↦ some ([], c ∷ s)
    | false ↦ elim (class_begins b c) [ true ↦ naming [] s | false ↦ in_front (byte b) (closed false (c ∷ s)) ]
  ]

  pub naming : List ℕ → List ℕ → Option (List Sign × List ℕ)
  naming n [] = none
  naming n (b ∷ []) = none
  naming n (b ∷ (c ∷ s)) = elim (class_ends b c) [
    | true ↦ in_front (class n) (closed false s)
    | false ↦ naming (n ++ (b ∷ [])) (c ∷ s)
  ]

abbrev pub sign_bytes : Sign → List ℕ
sign_bytes (byte b) = b ∷ []
sign_bytes (class n) = bytes "[:" ++ (n ++ bytes ":]")

-- refusal 7: "`[.` `[=` .. anywhere inside", in the name of a class too
unfoldable pub reserved : List ℕ → Bool
reserved [] = false
reserved (b ∷ s) = (eqb b (code "[") && next_of (bytes ".=") s) || reserved s

-- An item: a range, or the class of a name.
pub data Item : Type 0 where
  ranged : Range → Item
  classed : List ℕ → Item

abbrev pub with : Item → Option (List Item) → Option (List Item)
with i none = none
with i (some is) = some (i ∷ is)

abbrev pub one : ℕ → Item
one c = ranged (range c c)

-- "A `-` may begin an item only first or just before the closing `]`": whether an item may begin with c here, where more follows inside
abbrev pub begins : Bool → ℕ → Bool
begins first c = first || not (eqb c (code "-"))

-- the sign is a `-`
abbrev pub is_hyphen : Sign → Bool
is_hyphen (byte b) = eqb b (code "-")
is_hyphen (class n) = false

-- the range from c to a sign, and the items after it: a class may be "never .. a range's end, which is 7"
abbrev pub range_to : ℕ → Sign → Option (List Item) → Option (List Item)
range_to c (byte d) is = provided (leb c d) (with (ranged (range c d)) is)
range_to c (class n) is = none

-- "An item c followed by `-` and then a byte d other than `]` is the range c to d by byte value; otherwise c alone." "A class may stand
-- beside other items." The items of what is left inside, from the first item or a later one on:
unfoldable pub items : Bool → List Sign → Option (List Item)
items first [] = some []
items first (class n ∷ s) = with (classed n) (items false s)
items first (byte c ∷ []) = some (one c ∷ [])
items first (byte c ∷ (m ∷ [])) = provided (begins first c) (with (one c) (items false (m ∷ [])))
items first (byte c ∷ (m ∷ (d ∷ s))) = provided (begins first c) (elim (is_hyphen m) [
  | true ↦ range_to c d (items false s)
  | false ↦ with (one c) (items false (m ∷ (d ∷ s)))
])

unfoldable pub members : List Sign → Option (List Item)
members s = provided (not (reserved (flat_map sign_bytes s))) (items true s)

abbrev pub item_ranges : Item → Option (List Range)
item_ranges (ranged r) = some (r ∷ [])
item_ranges (classed n) = class_ranges n

abbrev pub together : Option (List Range) → Option (List Range) → Option (List Range)
together none y = none
together (some rs) none = none
together (some rs) (some ss) = some (rs ++ ss)

-- the ranges of all items, if each class has a known name
unfoldable pub ranges_of : List Item → Option (List Range)
ranges_of [] = some []
ranges_of (i ∷ is) = together (item_ranges i) (ranges_of is)

-- refusal 19: "a name not among the twelve, at the opening bracket's place .., there after 7 and before 8"
unfoldable pub known : (List Range → Set) → List ℕ → List Item → List ℕ → Parsing Set
known f w is r = elim (ranges_of is) [ none ↦ fault refusal.ClassName w | some rs ↦ found (f rs) r ]

-- the bytes of these items or all others, where s follows the `[` or `[^` with which w begins
unfoldable pub inside : (List Range → Set) → List ℕ → List ℕ → Parsing Set
inside f w s = then (enclosed refusal.Bracket w members (closed true s)) (known f w)

-- "Brackets: after `[`, an optional `^` complements within the alphabet."
unfoldable pub bracket : List ℕ → List ℕ → Parsing Set
bracket w s = elim (next "^" s) [ true ↦ inside except w (rest s) | false ↦ inside only w s ]

-- "`\` makes one of `^ . [ $ ( ) | * + ? { \` ordinary. `]` and `}` outside brackets are ordinary."
abbrev pub special : ℕ → Bool
special b = one_of (bytes "^.[$()|*+?{\\") b

-- one byte
abbrev pub alone : ℕ → Set
alone b = only (range b b ∷ [])

-- s follows the `\` with which w begins
unfoldable pub escaped : List ℕ → List ℕ → Parsing Set
escaped w [] = fault refusal.MisplacedSign w
escaped w (b ∷ s) = elim (special b) [ true ↦ found (alone b) s | false ↦ fault refusal.MisplacedSign w ]

-- Refusal 4: where a set should begin, `*` `+` `?` `{` are a "repetition with nothing to repeat, or after another", `|` `)` and the text's
-- end leave an "empty branch or group", `^` and `$` are "unescaped outside brackets".
unfoldable pub a_set : List ℕ → Parsing Set
a_set [] = fault refusal.MisplacedSign []
a_set (b ∷ s) =
    first_of
    (when (eqb b (code "\\")) (escaped (b ∷ s) s)
    ∷ when (eqb b (code ".")) (found (except []) s)
    ∷ when (eqb b (code "[")) (bracket (b ∷ s) s)
    ∷ when (special b) (fault refusal.MisplacedSign (b ∷ s))
    ∷ [])
    (found (alone b) s)

-- "Members outside the alphabet are ignored." Refusal 8: "ordinary character not in the alphabet, or bracket with no label".
unfoldable pub labelled_set : List ℕ → List ℕ → Parsing Set
labelled_set A s = then (a_set s) (λ c r. elim (eqb (labels_of A c) 0) [ true ↦ fault refusal.Foreign s | false ↦ found c r ])
