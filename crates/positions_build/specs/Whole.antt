-- What `build` needs of a text, and what it gives: arrays that tell the automaton of the text's tree.
use Rattle.std.specs.Prelude.{ℕ, ◌≤◌, ◌≡◌, Bool, true, false, List, length}
use Rattle.lists.specs.Stored.{Stored}
use Rattle.positions_follow.specs.Sets.{arc}
use Rattle.regex_tree.specs.Tree.{Tree}
use Rattle.regex_tree.specs.Letters.{letter_count}
use Rattle.regex_tree.specs.Parse.{expression_of}
use Rattle.positions.specs.Opened.{opened, labels}
use Rattle.positions.specs.Numbered.{numbered, automaton_of}
use Rattle.automaton.specs.Arrays.{Tells}
use Rattle.regex_bracket.specs.Answers.{is_found}
use Rattle.positions_parts.specs.declared.Built.{Built}
use Rattle.positions_letters.specs.Found.{tree_of}
use Rattle.positions_letters.specs.Shows.{Shows}

-- the tree of a text, if it has one
abbrev pub tree_of_text : List ℕ → List ℕ → Tree
tree_of_text A text = tree_of (expression_of A text)

-- the text has a tree of at most 127 letters, the arrays have an entry for each, and there is no arc yet
pub record Buildable (A text marks : List ℕ) (follow : List (List Bool)) : Type 0 where
  pub alphabet : length A ≤ 255
  pub parses : is_found (expression_of A text) ≡ true
  pub few : letter_count A (tree_of_text A text) ≤ 127
  pub labelled : 127 ≤ length marks
  pub followers : 127 ≤ length follow
  pub clear : (i j : ℕ) → arc follow i j ≡ false

-- the text was built up to its end, with as many letters as its tree has; their labels were stored from place 0 of the lent list on, and
-- nothing else; the arrays show the positions of the tree, and so they tell the automaton of the tree
pub record BuildsWhole (A text old new : List ℕ) (before after : List (List Bool)) (x : Built) : Type 0 where
  pub ends : x.end ≡ length text
  pub counts : x.letters ≡ letter_count A (tree_of_text A text)
  pub stored : Stored (labels (opened A (tree_of_text A text))) 0 old new x.letters
  pub shows : Shows (numbered 1 (opened A (tree_of_text A text))) x before after
  pub tells : Tells (automaton_of A (tree_of_text A text)) x.nullable new x.first x.last after
