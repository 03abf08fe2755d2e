-- The twelve classes of characters by their names, with their members in the POSIX locale (document 02, T-01; POSIX.1-2024, Base
-- Definitions, 7.3.1).
use Rattle.std.proofs.Math.Option.{Option, some, none}
use Rattle.std.specs.Prelude.{List, [], ◌∷◌, ◌++◌, map, true, false, ℕ}
use Prim.Native.Char.{code}
use Rattle.lists.specs.Lists.{same_list}
use Rattle.text.specs.Bytes.{bytes}
use Rattle.regex_tree.specs.Tree.{Range, range}

abbrev single : ℕ → Range
single b = range b b

abbrev upper : List Range
upper = range (code "A") (code "Z") ∷ []

abbrev lower : List Range
lower = range (code "a") (code "z") ∷ []

abbrev alpha : List Range
alpha = upper ++ lower

abbrev digit : List Range
digit = range (code "0") (code "9") ∷ []

abbrev alnum : List Range
alnum = alpha ++ digit

abbrev xdigit : List Range
xdigit = digit ++ (range (code "A") (code "F") ∷ range (code "a") (code "f") ∷ [])

abbrev punct : List Range
punct = map single (bytes "!\"#$%&'()*+,-./:;<=>?@[\\]^_`{|}~")

abbrev graph : List Range
graph = alnum ++ punct

-- and the space
abbrev print : List Range
print = graph ++ (single 32 ∷ [])

-- the space and the tab
abbrev blank : List Range
blank = single 32 ∷ single 9 ∷ []

-- the space, and from 9 to 13 tab, newline, vertical tab, form feed, carriage return
abbrev space : List Range
space = single 32 ∷ range 9 13 ∷ []

-- the control characters: all below the space, and delete
abbrev cntrl : List Range
cntrl = range 0 31 ∷ single 127 ∷ []

-- each name with its class
unfoldable pub classes : List (List ℕ × List Range)
classes =
    (bytes "alnum", alnum)
    ∷ (bytes "alpha", alpha)
    ∷ (bytes "blank", blank)
    ∷ (bytes "cntrl", cntrl)
    ∷ (bytes "digit", digit)
    ∷ (bytes "graph", graph)
    ∷ (bytes "lower", lower)
    ∷ (bytes "print", print)
    ∷ (bytes "punct", punct)
    ∷ (bytes "space", space)
    ∷ (bytes "upper", upper)
    ∷ (bytes "xdigit", xdigit)
    ∷ []

unfoldable pub look_up : List (List ℕ × List Range) → List ℕ → Option (List Range)
look_up [] n = none
look_up (c ∷ cs) n = elim (same_list c.0 n) [ true ↦ some c.1 | false ↦ look_up cs n ]

-- the members of the class of that name; none for "a name not among the twelve"
unfoldable pub class_ranges : List ℕ → Option (List Range)
class_ranges n = look_up classes n
