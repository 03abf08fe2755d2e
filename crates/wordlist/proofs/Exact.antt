-- The prefix tree of a list of words accepts exactly the listed words.
use Rattle.std.specs.Prelude.{ℕ, suc, ◌-◌, ◌≤◌, ◌≡◌, true, ◌↔◌, length, get_or}
use Rattle.std.proofs.Math.Path.{refl, sym, ap, ap₂, subst}
use Rattle.std.proofs.Common.{◌∙◌, arith}
use mathlib.Core.List.{List, [], ◌∷◌, ◌++◌, append_assoc, append-nil}
use Rattle.lists.specs.Each.{Each}
use Rattle.lists.specs.Lists.{Among, same_list, in_range}
use Rattle.lists.proofs.AmongLaws.{any_among, among_any, among_index}
use Rattle.lists.proofs.OrderLaws.{and_left, and_right, and_both}
use Rattle.lists.proofs.RangeLaws.{range_inside, range_true}
use Rattle.lists.proofs.SameLaws.{same_list_true, same_list_self}
use Rattle.alphabet.specs.Labels.{Label, character, characters}
use Rattle.automaton.specs.Automaton.{Walk, spelt, Accepts}
use Rattle.automaton.specs.Proper.{Proper}
use Rattle.wordlist.specs.PrefixTree.{whole, Letter, letter_with, letters_in, no_letter, letter_at, prefix_read_at, prefix_tree}
use Rattle.wordlist.specs.Listed.{Listed}
use Rattle.wordlist.proofs.LettersLaws.{letters_exactly, read_at, letter_among}

module _ (A : List ℕ) (ws : List (List ℕ)) where
  abbrev ls : List Letter
  ls = letters_in A ws

  -- a letter has a label of its prefix's last character
  letter_label : (j : ℕ) → 1 ≤ j → j ≤ length ls → Label A (letter_at ls j).label × (character A (letter_at ls j).label ≡ (letter_at ls j).prefix.character)
  letter_label j l h = let r = (letters_exactly A ws (letter_at ls j)).0 (letter_among ls j l h) in (r.1, r.2)

  -- the two conditions under which a letter follows
  follows : (i j : ℕ) → (prefix_tree A ws).follow i j ≡ true → (1 ≤ j) × (j ≤ length ls) × (prefix_read_at ls i ≡ (letter_at ls j).prefix.before)
  unfolding prefix_tree
  follows i j h =
      let inside = in_range 1 (length ls) j in
      let on = same_list (prefix_read_at ls i) (letter_at ls j).prefix.before in
      let r = range_true 1 (length ls) j (and_left inside on h) in
      (r.0, r.1, same_list_true (prefix_read_at ls i) (letter_at ls j).prefix.before (and_right inside on h))

  pub tree_proper : Proper (length A) (prefix_tree A ws)
  unfolding prefix_tree
  tree_proper = record { target = λ i j h. let f = follows i j h in (f.0, f.1); labelled = λ j l h. (letter_label j l h).0 }

  -- what a walk after letter i spells completes a listed word
  walk_listed :
      (js : List ℕ) (i : ℕ) → Walk (prefix_tree A ws) i js
      → Each (Label A) (spelt (prefix_tree A ws) js) × Among (prefix_read_at ls i ++ characters A (spelt (prefix_tree A ws) js)) ws
  unfolding prefix_tree
  walk_listed [] i h =
      let r = any_among (same_list (prefix_read_at ls i)) ws h in
      (tt, subst (λ l. Among l ws) (sym (same_list_true (prefix_read_at ls i) r.0 r.2) ∙ sym (append-nil (prefix_read_at ls i))) r.1)
  walk_listed (j ∷ js) i h =
      let f = follows i j h.0 in
      let label = letter_label j f.0 f.1 in
      let more = walk_listed js j h.1 in
      let rest = characters A (spelt (prefix_tree A ws) js) in
      let p = (letter_at ls j).prefix in
      let e : prefix_read_at ls j ++ rest ≡ prefix_read_at ls i ++ (character A (letter_at ls j).label ∷ rest) =
      ap (λ l. l ++ rest) (read_at ls j f.0)
      ∙ append_assoc p.before (p.character ∷ []) rest
      ∙ ap₂ (λ u c. u ++ (c ∷ rest)) (sym f.2) (sym label.1) in
      ((label.0, more.0), subst (λ l. Among l ws) e more.1)

  -- the letter with which a listed word goes on
  next_letter :
      (u v : List ℕ) (x : ℕ) → Label A x → Among (u ++ (character A x ∷ v)) ws
      → (j : ℕ) × (1 ≤ j) × (j ≤ length ls) × (letter_at ls j ≡ letter_with (record { before = u; character = character A x }) x)
  next_letter u v x label m =
      let z = letter_with (record { before = u; character = character A x }) x in
      let there = (letters_exactly A ws z).1 ((v, subst (λ l. Among l ws) (sym (append_assoc u (character A x ∷ []) v)) m), label, refl) in
      let i = among_index no_letter z ls there in
      let inside = i.1 in
      let one : suc i.0 - 1 ≡ i.0 = omega arith in
      (suc i.0, omega arith, omega arith, ap (λ n. get_or ls n no_letter) one ∙ i.2)

  -- what completes a listed word is spelt by a walk
  listed_walk :
      (w : List ℕ) (i : ℕ) → Each (Label A) w → Among (prefix_read_at ls i ++ characters A w) ws
      → (js : List ℕ) × Walk (prefix_tree A ws) i js × (spelt (prefix_tree A ws) js ≡ w)
  unfolding prefix_tree
  listed_walk [] i n m = (
    [],
    among_any (same_list (prefix_read_at ls i)) (prefix_read_at ls i ++ []) ws m (ap (same_list (prefix_read_at ls i)) (append-nil (prefix_read_at ls i)) ∙ same_list_self (prefix_read_at ls i)),
    refl,
  )
  listed_walk (x ∷ w) i n m =
      let u = prefix_read_at ls i in
      let c = character A x in
      let r = next_letter u (characters A w) x n.0 m in
      let j = r.0 in
      let z = r.3 in
      let read : prefix_read_at ls j ≡ u ++ (c ∷ []) = read_at ls j r.1 ∙ ap (λ (y : Letter). whole y.prefix) z in
      let more =
      listed_walk w j n.1
      (subst (λ l. Among l ws) (sym (ap (λ l. l ++ characters A w) read ∙ append_assoc u (c ∷ []) (characters A w))) m) in (
        j ∷ more.0,
        (
          and_both (in_range 1 (length ls) j) (same_list u (letter_at ls j).prefix.before) (range_inside 1 (length ls) j r.1 r.2)
              (ap (λ (y : Letter). same_list u y.prefix.before) z ∙ same_list_self u),
          more.1,
        ),
        ap₂ ◌∷◌ (ap (λ (y : Letter). y.label) z) more.2,
      )

  -- "The form accepts exactly the listed words": a list of labels whose characters spell one.
  pub accepts_listed : (w : List ℕ) → Accepts (prefix_tree A ws) w ↔ Listed A ws w
  unfolding prefix_read_at
  accepts_listed w = (λ s. subst (Listed A ws) s.2 (walk_listed s.0 0 s.1), λ h. listed_walk w 0 h.0 h.1)
