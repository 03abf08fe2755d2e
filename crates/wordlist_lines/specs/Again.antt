-- Whether a line comes again in the rest of a list.
use Rattle.std.specs.Prelude.{ℕ, ◌≡◌, Bool, List}
use Rattle.std.proofs.Math.Option.{some}
use Rattle.lists.specs.Lists.{any, same_list}
use Rattle.text_lines.specs.Lines.{lines_of}

-- r says whether the line is one of the lines of the rest, if the rest has lines; where its last line is not closed, r may be either
abbrev pub Again : (line rest : List ℕ) (r : Bool) → Type 0
Again line rest r = (ls : List (List ℕ)) → lines_of rest ≡ some ls → r ≡ any (same_list line) ls
