-- What the checking parser answers: the letters of the expression, up to 128, or the refusal of its leftmost fault.
use Rattle.std.specs.Prelude.{List, ℕ, Result, Ok, Err}
use Rattle.regex_tree.specs.Tree.{Tree}
use Rattle.regex_tree.specs.Parsing.{Parsing, found, fault}
use Rattle.regex_tree.specs.Letters.{letter_count}
use Rattle.regex_tree.specs.Few.{few}
use Rattle.regex_tree.specs.Parse.{expression_of}
use Rattle.refusal.specs.declared.Refusal.{Refusal}

abbrev pub parsed_of : List ℕ → Parsing Tree → Result ℕ Refusal
parsed_of A (found t r) = Ok (few (letter_count A t))
parsed_of A (fault n r) = Err n

-- the text over the alphabet A
unfoldable pub parsed : List ℕ → List ℕ → Result ℕ Refusal
parsed A text = parsed_of A (expression_of A text)
