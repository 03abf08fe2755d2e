-- The calls and returns of `alternation` and `branch`: given the parts built before, what each call requires holds, and each return meets
-- the contract.
use Rattle.std.specs.Prelude.{◌≡◌, refl, ◌⊎◌, List, Bool, true, false, ℕ, ◌+◌, ◌≤◌, ◌<◌, get_or, drop}
use Rattle.std.proofs.Math.Path.{ap}
use Rattle.std.proofs.Common.{◌∙◌, inl, inr, arith}
use Prim.Native.Char.{code}
use Rattle.std.proofs.Math.ListN.{length}
use Rattle.lists.proofs.OrderLaws.{eq_or_ne, true_or_false}
use Rattle.regex_tree.specs.Tree.{Tree, join, either}
use Rattle.regex_tree.specs.Parsing.{Parsing}
use Rattle.regex_tree.specs.Letters.{copies_of}
use Rattle.regex_tree.proofs.SenseLaws.{copies_some}
use Rattle.regex_tree.specs.Parse.{m_alternation, m_branch, m_piece, m_group, ends, parse}
use Rattle.positions.specs.Opened.{opened, repeated, labels}
use Rattle.positions.proofs.EquationsLaws.{letters_joining, letters_alternation}
use Rattle.text.specs.Places.{place}
use Rattle.positions_parts.specs.Together.{Chosen, Joined}
use Rattle.positions_parts.specs.declared.Built.{Built}
use Rattle.positions_letters.specs.Found.{rest_of, tree_of}
use Rattle.positions_letters.specs.Shows.{Builds}
use Rattle.positions_build.specs.CopiesLaws.{fewer_none, Alike, alike_by, alike_then}
use Rattle.positions_build.specs.ShownLaws.{builds_alike, builds_alternation, builds_joining, room_first, room_next}
use Rattle.positions_build.specs.Places.{Room, PartAt, opened_at, end_at, count_at, left_at}
use Rattle.positions_build.specs.MadeLaws.{Two, alternation_alone, alternation_more, piece_found, branch_last, branch_more}
use Rattle.positions_build.specs.PiecesLaws.{piece_counted}

module _ (A text : List ℕ) where
  -- the number of letters of a part that was parsed
  abbrev many : Parsing Tree → ℕ
  many x = length (labels (opened A (tree_of x)))

  -- the parsed part x was built
  abbrev BuildsParsed : ℕ → Parsing Tree → List (List Bool) → List (List Bool) → List ℕ → List ℕ → Built → Type 0
  BuildsParsed n x f g old new a = Builds n (opened A (tree_of x)) (place text (rest_of x)) f g old new a

  either_letters : (x y z : Parsing Tree) → Two either x y z → many z ≡ many x + many y
  unfolding opened
  either_letters x y z w = ap (λ t. length (labels (opened A t))) w.tree ∙ letters_alternation (opened A (tree_of x)) (opened A (tree_of y))

  join_letters : (x y z : Parsing Tree) → Two join x y z → many z ≡ many x + many y
  unfolding opened
  join_letters x y z w = ap (λ t. length (labels (opened A t))) w.tree ∙ letters_joining (opened A (tree_of x)) (opened A (tree_of y))

  module _ {n : ℕ} {f g : List (List Bool)} {old mid : List ℕ} {a : Built} (x y z : Parsing Tree) (u : BuildsParsed n x f g old mid a) where
    either_builds :
        {h : List (List Bool)} {new : List ℕ} {b c : Built} → Two either x y z → BuildsParsed a.letters y g h mid new b → Chosen a b c
        → BuildsParsed n z f h old new c
    unfolding opened
    either_builds w v o = rw (w.tree, w.beyond) (builds_alternation u v o)

    join_builds :
        {h k : List (List Bool)} {new : List ℕ} {b c : Built} → Two join x y z → BuildsParsed a.letters y g h mid new b → Joined a b c h k
        → BuildsParsed n z f k old new c
    unfolding opened
    join_builds w v o = rw (w.tree, w.beyond) (builds_joining u v o)

  -- Branches with `|` between them.
  module _ (d at : ℕ) (p : PartAt A text m_alternation d at) where
    branch_letters : many (parse A m_branch d (drop at text)) ≤ many (parse A m_alternation d (drop at text))
    branch_letters = by (eq_or_ne (get_or text (end_at A text m_branch d at) 0) (code "|"))
      where
        by :
            (get_or text (end_at A text m_branch d at) 0 ≡ code "|") ⊎ (get_or text (end_at A text m_branch d at) 0 ≡ code "|" → ⊥)
            → many (parse A m_branch d (drop at text)) ≤ many (parse A m_alternation d (drop at text))
        by (inl k) =
            let l =
            either_letters (parse A m_branch d (drop at text)) (parse A m_alternation d (drop (end_at A text m_branch d at + 1) text))
            (parse A m_alternation d (drop at text)) (alternation_more A text d at p (end_at A text m_branch d at) refl k) in
            omega arith
        by (inr k) = let l = ap many (alternation_alone A text d at p (end_at A text m_branch d at) refl k) in omega arith

    module _ {n : ℕ} {f : List (List Bool)} {old : List ℕ} (o : Room A (opened_at A text m_alternation d at) n old f) where
      pub branch_room : Room A (opened_at A text m_branch d at) n old f
      branch_room = room_first (opened_at A text m_branch d at) branch_letters o

      module _ {g : List (List Bool)} {mid : List ℕ} {a : Built} (u : Builds n (opened_at A text m_branch d at) (end_at A text m_branch d at) f g old mid a) where
        pub alternation_returns_branch :
            (get_or text a.end 0 ≡ code "|" → ⊥) → Builds n (opened_at A text m_alternation d at) (end_at A text m_alternation d at) f g old mid a
        alternation_returns_branch k = rw (alternation_alone A text d at p a.end u.ends k) u

        module _ (k : get_or text a.end 0 ≡ code "|") where
          pub alternation_found : PartAt A text m_alternation d (a.end + 1)
          alternation_found = (alternation_more A text d at p a.end u.ends k).second

          pub alternation_room : Room A (opened_at A text m_alternation d (a.end + 1)) a.letters mid g
          alternation_room =
              room_next
              (either_letters (parse A m_branch d (drop at text)) (parse A m_alternation d (drop (a.end + 1) text)) (parse A m_alternation d (drop at text))
              (alternation_more A text d at p a.end u.ends k))
              o u

          pub alternation_returns_choice :
              {h : List (List Bool)} {new : List ℕ} {b c : Built}
              → Builds a.letters (opened_at A text m_alternation d (a.end + 1)) (end_at A text m_alternation d (a.end + 1)) g h mid new b
              → Chosen a b c → Builds n (opened_at A text m_alternation d at) (end_at A text m_alternation d at) f h old new c
          alternation_returns_choice v c =
              either_builds (parse A m_branch d (drop at text)) (parse A m_alternation d (drop (a.end + 1) text)) (parse A m_alternation d (drop at text)) u
              (alternation_more A text d at p a.end u.ends k) v c

  -- A piece before its first copy is built.
  module _ (d at : ℕ) (p : PartAt A text m_piece d at) where
    whole_piece : Alike (left_at A text d at 0) (opened_at A text m_piece d at)
    whole_piece =
        let r = opened_at A text m_group d at in
        alike_then (alike_by (left_at A text d at 0) (repeated r (count_at A text d at)) (ap (repeated r) (fewer_none (count_at A text d at))))
        (piece_counted A text d at p).opens

    some_copies : 0 < copies_of (count_at A text d at)
    some_copies = copies_some (count_at A text d at) (piece_counted A text d at p).range

  -- Pieces joined.
  module _ (d at : ℕ) (p : PartAt A text m_branch d at) where
    piece_letters : many (parse A m_piece d (drop at text)) ≤ many (parse A m_branch d (drop at text))
    piece_letters = by (true_or_false (ends (drop (end_at A text m_piece d at) text)))
      where
        by :
            (ends (drop (end_at A text m_piece d at) text) ≡ true) ⊎ (ends (drop (end_at A text m_piece d at) text) ≡ false)
            → many (parse A m_piece d (drop at text)) ≤ many (parse A m_branch d (drop at text))
        by (inl k) = let l = ap many (branch_last A text d at p (end_at A text m_piece d at) refl k) in omega arith
        by (inr k) =
            let l =
            join_letters (parse A m_piece d (drop at text)) (parse A m_branch d (drop (end_at A text m_piece d at) text))
            (parse A m_branch d (drop at text)) (branch_more A text d at p (end_at A text m_piece d at) refl k) in
            omega arith

    pub first_copy : 0 < copies_of (count_at A text d at)
    first_copy = some_copies d at (piece_found A text d at p)

    module _ {n : ℕ} {f : List (List Bool)} {old : List ℕ} (o : Room A (opened_at A text m_branch d at) n old f) where
      pub piece_room : Room A (left_at A text d at 0) n old f
      piece_room =
          let l = piece_letters in
          let k = ap length (whole_piece d at (piece_found A text d at p)).labelled in
          room_first (left_at A text d at 0) (omega arith) o

      module _ {g : List (List Bool)} {mid : List ℕ} {a : Built} (v : Builds n (left_at A text d at 0) (end_at A text m_piece d at) f g old mid a) where
        built : Builds n (opened_at A text m_piece d at) (end_at A text m_piece d at) f g old mid a
        built = builds_alike (whole_piece d at (piece_found A text d at p)) v

        pub branch_returns_piece :
            ends (drop a.end text) ≡ true → Builds n (opened_at A text m_branch d at) (end_at A text m_branch d at) f g old mid a
        branch_returns_piece k = rw (branch_last A text d at p a.end v.ends k) built

        module _ (k : ends (drop a.end text) ≡ false) where
          pub next_found : PartAt A text m_branch d a.end
          next_found = (branch_more A text d at p a.end v.ends k).second

          pub next_room : Room A (opened_at A text m_branch d a.end) a.letters mid g
          next_room =
              room_next
              (join_letters (parse A m_piece d (drop at text)) (parse A m_branch d (drop a.end text)) (parse A m_branch d (drop at text))
              (branch_more A text d at p a.end v.ends k))
              o built

          pub branch_returns_joint :
              {h i : List (List Bool)} {new : List ℕ} {b c : Built}
              → Builds a.letters (opened_at A text m_branch d a.end) (end_at A text m_branch d a.end) g h mid new b
              → Joined a b c h i → Builds n (opened_at A text m_branch d at) (end_at A text m_branch d at) f i old new c
          branch_returns_joint w c =
              join_builds (parse A m_piece d (drop at text)) (parse A m_branch d (drop a.end text)) (parse A m_branch d (drop at text)) built
              (branch_more A text d at p a.end v.ends k) w c
