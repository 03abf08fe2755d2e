-- The automaton of a tree is proper, and accepts exactly the tree's words.
use Rattle.std.specs.Prelude.{ℕ, zero, suc, ◌+◌, ◌-◌, ◌≤◌, ◌<◌, ◌≡◌, ◌⊎◌, ◌↔◌, true, false, List, [], ◌++◌, length, get_or}
use Rattle.std.proofs.Common.{ap, subst, ◌∙◌, inl, inr, ⊎_elim, length-append, get_or-append-add}
use mathlib.Core.Logic.Iff.{trans as iff_trans, symm as iff_symm}
use native.Mathlib.Omega.{arith}
use Rattle.std.proofs.Math.ListN.{get_or-append}
use Rattle.lists.proofs.EachLaws.{each_append, each_at}
use Rattle.lists.specs.Each.{Each}
use Rattle.lists.proofs.AmongLaws.{among_each}
use Rattle.automaton.specs.Automaton.{Accepts}
use Rattle.automaton.specs.Proper.{Proper}
use Rattle.alphabet.specs.Labels.{Label}
use Rattle.regex_tree.specs.Tree.{Tree, set, group, times, join, either, Joined, Words}
use Rattle.regex_tree.proofs.SenseLaws.{Sensible}
use Rattle.positions.specs.Opened.{Opened, letter, joining, alternation, optional, star, plus, empty, never, labels_of_set, opened, labels, letters}
use Rattle.positions.specs.OpenedWords.{OpenedWords}
use Rattle.positions.proofs.Opening.{labels_in, opening_keeps_words}
use Rattle.positions.proofs.LettersLaws.{any_of_labels}
use Rattle.positions.specs.Numbered.{numbered, bare, label_at, position_automaton, automaton_of}
use Rattle.positions.proofs.EquationsLaws.{Kept, repeated_kept}
use Rattle.positions.proofs.InsideLaws.{Inside, goes_to, inside_bare, inside_single, inside_perhaps, inside_again, Apart, inside_choice, inside_joint}
use Rattle.positions.proofs.WalksLaws.{Exact, single_words, empty_words, never_words, joint_words, choice_words, perhaps_words, again_words}

-- The letters of r, numbered from n on, are n to n + letters r - 1.
both_apart :
    (n : ℕ) (r s : Opened) → 1 ≤ n → Inside n (n + letters r) (numbered n r)
    → Inside (n + letters r) (n + letters r + letters s) (numbered (n + letters r) s)
    → Apart n (n + letters r) (n + letters r + letters s) (numbered n r) (numbered (n + letters r) s)
both_apart n r s l x y = record { one = l; left = omega arith; right = omega arith; front = x; back = y }

both_letters : (n : ℕ) (r s : Opened) → n + letters r + letters s ≡ n + length (labels r ++ labels s)
both_letters n r s = rw (length-append (labels r) (labels s)) (omega arith)

pub numbered_inside : (n : ℕ) (r : Opened) → 1 ≤ n → Inside n (n + letters r) (numbered n r)
unfolding numbered labels
numbered_inside n (letter a) l = inside_single n
numbered_inside n (joining r s) l =
    subst (λ k. Inside n k (numbered n (joining r s))) (both_letters n r s)
    (inside_joint
    (both_apart n r s l (numbered_inside n r l) (numbered_inside (n + letters r) s (omega arith))))
numbered_inside n (alternation r s) l =
    subst (λ k. Inside n k (numbered n (alternation r s))) (both_letters n r s)
    (inside_choice
    (both_apart n r s l (numbered_inside n r l) (numbered_inside (n + letters r) s (omega arith))))
numbered_inside n (optional r) l = inside_perhaps (numbered_inside n r l)
numbered_inside n (star r) l = inside_perhaps (inside_again (numbered_inside n r l))
numbered_inside n (plus r) l = inside_again (numbered_inside n r l)
numbered_inside n empty l = subst (λ k. Inside n k (bare true)) (omega arith) (inside_bare n true)
numbered_inside n never l = subst (λ k. Inside n k (bare false)) (omega arith) (inside_bare n false)

apart : (n : ℕ) (r s : Opened) → 1 ≤ n → Apart n (n + letters r) (n + letters r + letters s) (numbered n r) (numbered (n + letters r) s)
apart n r s l = both_apart n r s l (numbered_inside n r l) (numbered_inside (n + letters r) s (omega arith))

-- the letters from n on have the labels of the list
abbrev pub Labelled : (ℕ → ℕ) → ℕ → List ℕ → Type 0
Labelled label n l = (i : ℕ) → i < length l → label (n + i) ≡ get_or l i 0

labelled_left : (label : ℕ → ℕ) (n : ℕ) (l m : List ℕ) → Labelled label n (l ++ m) → Labelled label n l
labelled_left label n l m h i d = h i (rw (length-append l m) (omega arith)) ∙ get_or-append l m 0 i d

labelled_right : (label : ℕ → ℕ) (n : ℕ) (l m : List ℕ) → Labelled label n (l ++ m) → Labelled label (n + length l) m
labelled_right label n l m h i d =
    let e : n + length l + i ≡ n + (length l + i) = omega arith in
    ap label e ∙ h (length l + i) (rw (length-append l m) (omega arith)) ∙ get_or-append-add l m i 0

-- any number of words joined: none, or at least one
none_or_more : (P : List ℕ → Type 0) (w : List ℕ) → ((w ≡ []) ⊎ ((k : ℕ) × Joined P (suc k) w)) ↔ ((k : ℕ) × Joined P k w)
none_or_more P w = (⊎_elim (λ e. (0, e)) (λ h. (suc h.0, h.1)), λ h. by h.0 h.1)
  where
    by : (k : ℕ) → Joined P k w → (w ≡ []) ⊎ ((k : ℕ) × Joined P (suc k) w)
    by zero h = inl h
    by (suc k) h = inr (k, h)

module _ (c : ℕ) (label : ℕ → ℕ) where
  pub opened_exact : (n : ℕ) (r : Opened) → 1 ≤ n → Labelled label n (labels r) → Exact c label (numbered n r) (OpenedWords r)
  unfolding numbered labels
  opened_exact n (letter a) l g = single_words c label n a l (let z : n + 0 ≡ n = omega arith in rw z at (g 0 (omega arith)))
  opened_exact n (joining r s) l g =
      joint_words c label (apart n r s l) (OpenedWords r) (OpenedWords s)
      (opened_exact n r l (labelled_left label n (labels r) (labels s) g))
      (opened_exact (n + letters r) s (omega arith) (labelled_right label n (labels r) (labels s) g))
  opened_exact n (alternation r s) l g =
      choice_words c label (apart n r s l) (OpenedWords r) (OpenedWords s)
      (opened_exact n r l (labelled_left label n (labels r) (labels s) g))
      (opened_exact (n + letters r) s (omega arith) (labelled_right label n (labels r) (labels s) g))
  opened_exact n (optional r) l g = perhaps_words c label l (numbered_inside n r l) (OpenedWords r) (opened_exact n r l g)
  opened_exact n (star r) l g = λ w.
      let x = numbered_inside n r l in
      iff_trans
      (perhaps_words c label l (inside_again x) (OpenedWords (plus r))
      (again_words c label l x (OpenedWords r) (opened_exact n r l g)) w)
      (none_or_more (OpenedWords r) w)
  opened_exact n (plus r) l g = again_words c label l (numbered_inside n r l) (OpenedWords r) (opened_exact n r l g)
  opened_exact n empty l g = empty_words c label
  opened_exact n never l g = never_words c label

pub accepts_opened : (r : Opened) (w : List ℕ) → Accepts (position_automaton r) w ↔ OpenedWords r w
unfolding position_automaton
accepts_opened r = opened_exact (letters r) (label_at r) 1 r (omega arith) (λ i d. let z : 1 + i - 1 ≡ i = omega arith in ap (λ k. get_or (labels r) k 0) z)

-- The automaton of a tree accepts exactly the words of the tree.
pub accepts_words : (A : List ℕ) (t : Tree) → Sensible A t → (w : List ℕ) → Accepts (automaton_of A t) w ↔ Words A t w
accepts_words A t o w = iff_trans (accepts_opened (opened A t) w) (iff_symm (opening_keeps_words A t o w))

each_kept : (P : ℕ → Type 0) → Kept (λ r. Each P (labels r))
unfolding labels
each_kept P = record {
  joins = λ r s. each_append P (labels r) (labels s);
  optionals = λ r h. h;
  stars = λ r h. h;
  pluses = λ r h. h;
  none = tt;
}

opened_each : (A : List ℕ) (t : Tree) → Each (Label A) (labels (opened A t))
unfolding opened labels
opened_each A (set c) =
    rw (any_of_labels (labels_of_set A c)) (among_each (Label A) (labels_of_set A c) (λ x m. ((labels_in A c x).0 m).0))
opened_each A (group r) = opened_each A r
opened_each A (times r c) = repeated_kept (λ r. Each (Label A) (labels r)) (each_kept (Label A)) (opened A r) (opened_each A r) c
opened_each A (join r s) = each_append (Label A) (labels (opened A r)) (labels (opened A s)) (opened_each A r) (opened_each A s)
opened_each A (either r s) = each_append (Label A) (labels (opened A r)) (labels (opened A s)) (opened_each A r) (opened_each A s)

pub automaton_proper : (A : List ℕ) (t : Tree) → Proper (length A) (automaton_of A t)
unfolding position_automaton
automaton_proper A t =
    let r = opened A t in
    record {
      target = λ i j h. let z = goes_to (numbered_inside 1 r (omega arith)) i j h in omega arith;
      labelled = λ j l h. each_at (Label A) 0 (labels r) (j - 1) (omega arith) (opened_each A t);
    }
