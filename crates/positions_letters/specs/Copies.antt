-- A count as copies to build.
use Rattle.std.specs.Prelude.{ℕ, Bool, true, false, List}
use Rattle.regex_tree.specs.Tree.{Count, between, onward}
use Rattle.regex_tree.specs.Parsing.{Parsing}
use Rattle.regex_tree.specs.Letters.{copies_of}
use Rattle.text.specs.Places.{place}
use Rattle.positions_letters.specs.Found.{rest_of, count_of}
use Rattle.positions_letters.specs.declared.Copies.{Copies}

abbrev pub least_of : Count → ℕ
least_of (between n m) = n
least_of (onward n) = n

abbrev pub is_onward : Count → Bool
is_onward (between n m) = false
is_onward (onward n) = true

-- a count that was parsed, as copies to build
abbrev pub copies_by : List ℕ → Parsing Count → Copies
copies_by text x = record { least = least_of (count_of x); most = copies_of (count_of x); onward = is_onward (count_of x); end = place text (rest_of x) }
