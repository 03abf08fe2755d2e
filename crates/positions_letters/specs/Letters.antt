-- A set of labels as letters: the room that it needs, the range of its letters, and what it means that it was built.
use Rattle.std.specs.Prelude.{ℕ, suc, ◌+◌, ◌≤◌, ◌≡◌, Bool, List, length, drop}
use Rattle.positions_follow.specs.Sets.{member}
use Rattle.regex_tree.specs.Tree.{Set}
use Rattle.regex_tree.specs.Sets.{a_set}
use Rattle.positions.specs.Opened.{labels_of_set, any_of}
use Rattle.positions.proofs.EquationsLaws.{alone}
use Rattle.text.specs.Places.{place}
use Rattle.regex_set.specs.Answers.{set_at}
use Rattle.positions_parts.specs.declared.Built.{Built}
use Rattle.positions_letters.specs.Found.{rest_of}
use Rattle.positions_letters.specs.Shows.{Builds}

module _ (A : List ℕ) (c : Set) where
  -- there is room for the set's letters after n others
  pub record SetRoom (n : ℕ) (marks : List ℕ) : Type 0 where
    pub alphabet : length A ≤ 255
    pub few : n + length (labels_of_set A c) ≤ 127
    pub labelled : 127 ≤ length marks

-- exactly the letters n + 1 to m are in the list
unfoldable pub Ranged : ℕ → ℕ → List Bool → Type 0
Ranged n m r = (i : ℕ) → member r i ≡ (alone (suc n) (suc m)).first (suc i)

-- The set at a place was built after n letters; the follow relation, whatever it is, has no new arc.
abbrev pub SetBuilds : List ℕ → List ℕ → ℕ → ℕ → List ℕ → List ℕ → Built → Type 0
SetBuilds A text at n old new x =
    (f : List (List Bool)) → Builds n (any_of (labels_of_set A (set_at text at))) (place text (rest_of (a_set (drop at text)))) f f old new x
