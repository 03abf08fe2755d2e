-- Parts of texts at their places, and what is left of a repetition, computed.
use Rattle.std.specs.Prelude.{◌≡◌, refl, List, ℕ}
use Rattle.lists.specs.Lists.{keep, numbers}
use Rattle.text.specs.Bytes.{bytes}
use Rattle.regex_tree.specs.Tree.{between, onward}
use Rattle.regex_tree.specs.Letters.{labels_of}
use Rattle.regex_tree.specs.Parsing.{then, enclosed}
use Rattle.text.specs.Text.{split}
use Rattle.lists.specs.Cases.{first_of, provided}
use Rattle.regex_tree.specs.Sets.{a_set, labelled_set}
use Rattle.regex_tree.specs.Repetition.{number, from_on, from_to, comma, counts, sign, repetition}
use Rattle.regex_tree.specs.Parse.{m_branch, m_piece, m_group, grouped, step, go, parse}
use Rattle.positions.specs.Opened.{Opened, letter, joining, alternation, optional, plus, empty, never, any_of, copies, nested, repeated, opened}
use Rattle.positions_letters.specs.Found.{counted}
use Rattle.positions_build.specs.Places.{end_at, opened_at, count_at, left_at}

abbrev ab : List ℕ
ab = bytes "ab"

-- one label opens into an alternation of one
abbrev a : Opened
a = alternation (letter 1) never

-- in `b(a|b){2,}` a piece ends after its repetition, a group before it
piece_ends : end_at ab (bytes "b(a|b){2,}") m_piece 16 1 ≡ 10
unfolding parse go step grouped then labelled_set a_set first_of labels_of repetition sign enclosed split counts comma from_on number provided
piece_ends = refl

group_ends : end_at ab (bytes "b(a|b){2,}") m_group 16 1 ≡ 6
unfolding parse go step grouped then labelled_set a_set first_of labels_of
group_ends = refl

counts_two : count_at ab (bytes "b(a|b){2,}") 16 1 ≡ onward 2
unfolding parse go step grouped then labelled_set a_set first_of labels_of repetition sign enclosed split counts comma from_on number provided counted
counts_two = refl

counts_one : count_at ab (bytes "ab") 16 0 ≡ between 1 1
unfolding parse go step then labelled_set a_set first_of labels_of counted
counts_one = refl

-- after one copy `(a(a)?)?` is left of `a{1,3}`, and `a+` of `a{2,}`
two_spare : left_at ab (bytes "a{1,3}") 16 0 1 ≡ optional (joining a (optional (joining a empty)))
unfolding parse go step then labelled_set a_set first_of labels_of repetition sign enclosed split counts comma from_to number provided counted opened any_of keep numbers repeated copies nested
two_spare = refl

one_onward : left_at ab (bytes "a{2,}") 16 0 1 ≡ plus a
unfolding parse go step then labelled_set a_set first_of labels_of repetition sign enclosed split counts comma from_on number provided counted opened any_of keep numbers repeated copies
one_onward = refl

-- the branch after the first piece of `aa`
second : opened_at ab (bytes "aa") m_branch 16 1 ≡ a
unfolding parse go step then labelled_set a_set first_of labels_of opened any_of keep numbers
second = refl
