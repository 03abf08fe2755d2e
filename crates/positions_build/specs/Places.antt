-- The part that is parsed at a place of a text, if there is one: its tree, its end and how it opens; and the room to build it.
use Rattle.std.specs.Prelude.{◌≡◌, List, true, Bool, ℕ, ◌-◌, ◌+◌, ◌≤◌, drop, length}
use Rattle.regex_tree.specs.Tree.{Count, Tree, between, onward}
use Rattle.regex_tree.specs.Parse.{Mode, m_group, parse}
use Rattle.positions.specs.Opened.{Opened, opened, repeated, labels}
use Rattle.text.specs.Places.{place}
use Rattle.regex_bracket.specs.Answers.{is_found}
use Rattle.positions_letters.specs.Found.{rest_of, tree_of, count_of, counted}

-- what a count still asks for after k words
abbrev pub fewer : Count → ℕ → Count
fewer (between n m) k = between (n - k) (m - k)
fewer (onward n) k = onward (n - k)

-- in a text over the alphabet A
module _ (A text : List ℕ) where
  -- a part is found at a place, where d more groups may be opened
  abbrev pub PartAt : Mode → ℕ → ℕ → Type 0
  PartAt m d at = is_found (parse A m d (drop at text)) ≡ true

  -- its tree, where it ends, and how it opens
  abbrev pub tree_at : Mode → ℕ → ℕ → Tree
  tree_at m d at = tree_of (parse A m d (drop at text))

  abbrev pub end_at : Mode → ℕ → ℕ → ℕ
  end_at m d at = place text (rest_of (parse A m d (drop at text)))

  abbrev pub opened_at : Mode → ℕ → ℕ → Opened
  opened_at m d at = opened A (tree_at m d at)

  -- the count of the piece, and what is left of it after k copies
  abbrev pub count_at : ℕ → ℕ → Count
  count_at d at = count_of (counted (drop (end_at m_group d at) text))

  abbrev pub left_at : ℕ → ℕ → ℕ → Opened
  left_at d at k = repeated (opened_at m_group d at) (fewer (count_at d at) k)

-- there is room to build r after n letters
pub record Room (A : List ℕ) (r : Opened) (n : ℕ) (marks : List ℕ) (follow : List (List Bool)) : Type 0 where
  pub alphabet : length A ≤ 255
  pub few : n + length (labels r) ≤ 127
  pub labelled : 127 ≤ length marks
  pub followers : 127 ≤ length follow
