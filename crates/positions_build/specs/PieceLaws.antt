-- The calls and returns of `piece` and `group`: given the parts built before, what each call requires holds, and each return meets the
-- contract.
use Rattle.std.specs.Prelude.{◌≡◌, refl, ◌⊎◌, List, Bool, true, ℕ, ◌+◌, ◌-◌, ◌≤◌, ◌<◌, length, get_or, drop, leb}
use Rattle.std.proofs.Math.Path.{sym, ap}
use Rattle.std.proofs.Common.{subst, ◌∙◌, inl, inr, arith}
use Rattle.std.proofs.Math.Bool.{false}
use Prim.Native.Char.{code}
use Rattle.lists.proofs.OrderLaws.{lt_or_le}
use Rattle.regex_tree.specs.Letters.{copies_of}
use Rattle.regex_tree.specs.Parse.{m_alternation, m_piece, m_group, parse}
use Rattle.positions.specs.Opened.{Opened, joining, opened, labels, labels_of_set, any_of}
use Rattle.positions.proofs.EquationsLaws.{letters_joining}
use Rattle.positions.proofs.LettersLaws.{any_of_labels}
use Rattle.text.specs.Places.{place}
use Rattle.regex_bracket.specs.Answers.{is_found}
use Rattle.regex_set.specs.Answers.{SetAt, set_at}
use Rattle.positions_parts.specs.Together.{Joined, Looped, Spared, Ended}
use Rattle.positions_parts.specs.declared.Built.{Built}
use Rattle.positions_letters.specs.Found.{tree_of, counted}
use Rattle.positions_letters.specs.Copies.{least_of, is_onward, copies_by}
use Rattle.positions_letters.specs.Shows.{Builds}
use Rattle.positions_letters.specs.Letters.{SetRoom, SetBuilds}
use Rattle.positions_letters.specs.declared.Copies.{Copies}
use Rattle.positions_build.specs.CopiesLaws.{spared, looped, last_copy, next_copy, copies_few}
use Rattle.positions_build.specs.ShownLaws.{builds_alike, builds_joining, builds_spared, builds_looped, room_first, room_next}
use Rattle.positions_build.specs.Places.{Room, PartAt, opened_at, end_at, count_at, left_at}
use Rattle.positions_build.specs.MadeLaws.{parsed_part}
use Rattle.positions_build.specs.PiecesLaws.{group_found, piece_counted, group_set, Enclosed, group_enclosed}

spared_letters : (b : Bool) (r : Opened) → length (labels (spared b r)) ≡ length (labels r)
unfolding spared labels
spared_letters true r = refl
spared_letters false r = refl

looped_letters : (b : Bool) (r : Opened) → length (labels (looped b r)) ≡ length (labels r)
unfolding looped labels
looped_letters true r = refl
looped_letters false r = refl

module _ (A text : List ℕ) where
  -- What is left of a piece after k copies.
  module _ (d at : ℕ) (p : PartAt A text m_piece d at) (k : ℕ) where
    pub few_copies : copies_of (count_at A text d at) ≤ 255
    few_copies = copies_few (count_at A text d at) (piece_counted A text d at p).range

    module _ (j : k + 1 < copies_of (count_at A text d at)) where
      more_letters : length (labels (left_at A text d at k)) ≡ length (labels (opened_at A text m_group d at)) + length (labels (left_at A text d at (k + 1)))
      more_letters =
          let r = opened_at A text m_group d at in
          let s = left_at A text d at (k + 1) in
          let c = count_at A text d at in
          ap (λ t. length (labels t)) (next_copy r c k j) ∙ spared_letters (leb (least_of c) k) (joining r s) ∙ letters_joining r s

    last_letters : k + 1 ≡ copies_of (count_at A text d at) → length (labels (left_at A text d at k)) ≡ length (labels (opened_at A text m_group d at))
    last_letters j =
        let r = opened_at A text m_group d at in
        let c = count_at A text d at in
        sym (ap length (last_copy r c k (piece_counted A text d at p).range j).labelled)
        ∙ spared_letters (leb (least_of c) k) (looped (is_onward c) r) ∙ looped_letters (is_onward c) r

    module _ (i : k < copies_of (count_at A text d at)) {n : ℕ} {f : List (List Bool)} {old : List ℕ} (o : Room A (left_at A text d at k) n old f) where
      pub group_room : Room A (opened_at A text m_group d at) n old f
      group_room = room_first (opened_at A text m_group d at) (by (lt_or_le (k + 1) (copies_of (count_at A text d at)))) o
        where
          by :
              (k + 1 < copies_of (count_at A text d at)) ⊎ (copies_of (count_at A text d at) ≤ k + 1)
              → length (labels (opened_at A text m_group d at)) ≤ length (labels (left_at A text d at k))
          by (inl j) = let l = more_letters j in omega arith
          by (inr j) = let l = last_letters (omega arith) in omega arith

      module _ {g : List (List Bool)} {mid : List ℕ} {a : Built} (u : Builds n (opened_at A text m_group d at) (end_at A text m_group d at) f g old mid a) where
        pub count_found : (a.end ≤ length text) × (is_found (counted (drop a.end text)) ≡ true)
        count_found =
            let w = (parsed_part A text m_group d at (group_found A text d at p)).within in
            let e = u.ends in
            (omega arith, rw e (piece_counted A text d at p).counts)

        -- the count that was parsed
        module _ (c : Copies) (z : c ≡ copies_by text (counted (drop a.end text))) where
          is : c ≡ copies_by text (counted (drop (end_at A text m_group d at) text))
          is = z ∙ ap (λ e. copies_by text (counted (drop e text))) u.ends

          pub most_is : c.most ≡ copies_of (count_at A text d at)
          most_is = ap (λ (x : Copies). x.most) is

          ends_beyond : c.end ≡ end_at A text m_piece d at
          ends_beyond = ap (λ (x : Copies). x.end) is ∙ ap (place text) (sym (piece_counted A text d at p).beyond)

          spared_by : {b x : Built} → Spared b (leb c.least k) c.end x → Spared b (leb (least_of (count_at A text d at)) k) (end_at A text m_piece d at) x
          spared_by {b} {x} s =
              subst (λ e. Spared b (leb (least_of (count_at A text d at)) k) e x) ends_beyond
              (subst (λ m. Spared b (leb m k) c.end x) (ap (λ (x : Copies). x.least) is) s)

          pub piece_returns_last :
              {h : List (List Bool)} {x : Built} → k + 1 ≡ c.most → Looped c.onward a.last a.first g h → Spared a (leb c.least k) c.end x
              → Builds n (left_at A text d at k) (end_at A text m_piece d at) f h old mid x
          piece_returns_last {h} j l s =
              let q = count_at A text d at in
              let y = subst (λ t. Looped t a.last a.first g h) (ap (λ (x : Copies). x.onward) is) l in
              builds_alike (last_copy (opened_at A text m_group d at) q k (piece_counted A text d at p).range (j ∙ most_is))
              (builds_spared (builds_looped u (is_onward q) y) (leb (least_of q) k) (spared_by s))

          module _ (j : k + 1 ≡ c.most → ⊥) where
            pub more_left : k + 1 < copies_of (count_at A text d at)
            more_left = let m = most_is in omega arith

            pub left_room : Room A (left_at A text d at (k + 1)) a.letters mid g
            left_room = room_next (more_letters more_left) o u

            pub piece_returns_more :
                {h m : List (List Bool)} {new : List ℕ} {b x y : Built}
                → Builds a.letters (left_at A text d at (k + 1)) (end_at A text m_piece d at) g h mid new b → Joined a b x h m
                → Spared x (leb c.least k) c.end y → Builds n (left_at A text d at k) (end_at A text m_piece d at) f m old new y
            piece_returns_more v w s =
                let q = count_at A text d at in
                rw (next_copy (opened_at A text m_group d at) q k more_left) (builds_spared (builds_joining u v w) (leb (least_of q) k) (spared_by s))

  -- A set, or an alternation in parentheses.
  module _ (d at : ℕ) (p : PartAt A text m_group d at) {n : ℕ} {f : List (List Bool)} {old : List ℕ} (o : Room A (opened_at A text m_group d at) n old f) where
    module _ (k : get_or text at 0 ≡ code "(" → ⊥) where
      pub set_found : SetAt text at
      set_found = (group_set A text d at p k).there

      is_set : opened_at A text m_group d at ≡ any_of (labels_of_set A (set_at text at))
      unfolding opened
      is_set = ap (λ x. opened A (tree_of x)) (group_set A text d at p k).is

      pub set_room : SetRoom A (set_at text at) n old
      set_room =
          let l = ap (λ r. length (labels r)) is_set ∙ ap length (any_of_labels (labels_of_set A (set_at text at))) in
          let m = o.few in
          record { alphabet = o.alphabet; few = omega arith; labelled = o.labelled }

      pub group_returns_set :
          {new : List ℕ} {x : Built} → SetBuilds A text at n old new x → Builds n (opened_at A text m_group d at) (end_at A text m_group d at) f f old new x
      unfolding opened
      group_returns_set b = rw (group_set A text d at p k).is (b f)

    module _ (k : get_or text at 0 ≡ code "(") where
      pub deep : 1 ≤ d
      deep = (group_enclosed A text d at p k).0

      inside : Enclosed A text (parse A m_alternation (d - 1) (drop (at + 1) text)) (parse A m_group d (drop at text))
      inside = (group_enclosed A text d at p k).1

      pub content_found : PartAt A text m_alternation (d - 1) (at + 1)
      content_found = inside.inner

      pub content_within : end_at A text m_alternation (d - 1) (at + 1) < length text
      content_within = inside.within

      is_content : opened_at A text m_group d at ≡ opened_at A text m_alternation (d - 1) (at + 1)
      unfolding opened
      is_content = ap (opened A) inside.tree

      pub content_room : Room A (opened_at A text m_alternation (d - 1) (at + 1)) n old f
      content_room =
          let l = ap (λ r. length (labels r)) is_content in
          room_first (opened_at A text m_alternation (d - 1) (at + 1)) (omega arith) o

      pub group_returns_content :
          {g : List (List Bool)} {new : List ℕ} {a x : Built}
          → Builds n (opened_at A text m_alternation (d - 1) (at + 1)) (end_at A text m_alternation (d - 1) (at + 1)) f g old new a
          → Ended a (a.end + 1) x → Builds n (opened_at A text m_group d at) (end_at A text m_group d at) f g old new x
      unfolding spared
      group_returns_content {g} {new} {a} {x} u s =
          let b = builds_spared u false s in
          let e : a.end + 1 ≡ end_at A text m_group d at = ap (λ i. i + 1) u.ends ∙ sym inside.end in
          rw is_content (subst (λ i. Builds n (opened_at A text m_alternation (d - 1) (at + 1)) i f g old new x) e b)
