-- A row of the code's table as a class: its name and its ranges; and whether it is the class of a definition.
use Rattle.std.specs.Prelude.{◌≡◌, List, [], ◌∷◌, Bool, true, false, not, cond, ◌&&◌, ℕ, ◌<◌, ◌≤◌, length, leb, Option as Found, Some, None}
use Rattle.std.specs.List.{find, list_any}
use Rattle.std.specs.Str.{bytes_eq}
use Rattle.std.proofs.Math.Option.{Option}
use Rattle.lists.specs.Each.{all}
use Rattle.lists.specs.Options.{is_some, listed}
use Rattle.lists.specs.Lists.{same_list, numbers}
use Rattle.regex_tree.specs.Tree.{Range, range, within, among}
use Rattle.regex_classes.specs.declared.table.Span.{Span}
use Rattle.regex_classes.specs.declared.table.Class.{Class}

abbrev pub as_range : Span → Range
as_range p = range p.0 p.1

-- the byte is in some range of the row
abbrev pub class_among : Class → ℕ → Bool
class_among c b = list_any (λ s. within (as_range s) b) c.ranges.now

-- the row c is the class of this name and these ranges: it has the same bytes, and at least one range
pub record Row (name : List ℕ) (ranges : List Range) (c : Class) : Type 0 where
  pub some_range : 1 ≤ length c.ranges.now
  pub spells : c.name.now ≡ name
  pub has : (b : ℕ) → b < 256 → class_among c b ≡ among ranges b

-- as a test
abbrev pub equal : Bool → Bool → Bool
equal a b = cond a b (not b)

unfoldable pub is_row : List ℕ × List Range → Class → Bool
is_row d c =
    leb 1 (length c.ranges.now) && (same_list c.name.now d.0 && all (λ b. equal (class_among c b) (among d.1 b)) (numbers 0 256))

-- row by row
unfoldable pub agrees : List Class → List (List ℕ × List Range) → Bool
agrees [] [] = true
agrees [] (d ∷ ds) = false
agrees (c ∷ cs) [] = false
agrees (c ∷ cs) (d ∷ ds) = is_row d c && agrees cs ds

-- the first row of this name
unfoldable pub row_of : List ℕ → List Class → Found Class
row_of name table = find (λ class. bytes_eq class.name.now name) table

abbrev pub is_class : Found Class → Bool
is_class None = false
is_class (Some c) = true

abbrev pub found_among : Found Class → ℕ → Bool
found_among None b = false
found_among (Some c) b = class_among c b

-- a row of the table is found where a class is, and it has the same bytes
pub record Looked (found : Option (List Range)) (r : Found Class) : Type 0 where
  pub known : is_class r ≡ is_some found
  pub has : (b : ℕ) → b < 256 → found_among r b ≡ among (listed found) b
