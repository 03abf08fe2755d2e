-- A text that compiles over an alphabet.
use Rattle.std.specs.Prelude.{ℕ, ◌≤◌, ◌≡◌, true, List}
use Rattle.regex_tree.specs.Letters.{letter_count}
use Rattle.regex_tree.specs.Parse.{expression_of}
use Rattle.regex_bracket.specs.Answers.{is_found}
use Rattle.positions_build.specs.Whole.{tree_of_text}

-- a well-formed text, with at most 127 letters
pub record Compilable (A s : List ℕ) : Type 0 where
  pub parses : is_found (expression_of A s) ≡ true
  pub within : letter_count A (tree_of_text A s) ≤ 127
