-- `positions_letters::Source::write_labels` meets its contract: what is before n, what is written and the labels still to come make the whole.
use Rattle.std.specs.Prelude.{ℕ, ◌+◌, ◌-◌, ◌<◌, ◌≡◌, Bool, true, false, length, get_or}
use mathlib.Core.Path.{sym, ap, ◌∙◌, subst}
use mathlib.Core.List.{List, [], ◌∷◌, ◌++◌}
use native.Mathlib.Omega.{arith}
use lib.ListN.{take}
use Rattle.lists.specs.Lists.{keeping}
use Rattle.lists.proofs.FillingLoops.{Filling, filling_from, filling_more, filling_room, filling_stored_all}
use Rattle.regex_tree.specs.Tree.{Set, member as member_of}
use Rattle.positions.specs.Opened.{labels_of_set}
use Rattle.regex_set.specs.Answers.{set_at}
use Rattle.positions_letters.specs.LettersLaws.{labels_from, labels_first, labels_here, labels_past}
use Rattle.positions_letters.proofs.Source.write_labels.Goals as goal
use Rattle.positions_letters.proofs.Source.write_labels.Goals.{then-member, else-member}

-- what is still to come where the loop tests the character at i
labels_next :
    (A : List ℕ) (s : Set) (i : ℕ) (t : Bool) → i < length A → t ≡ member_of s (get_or A i 0)
    → labels_from A s (i + 1) ≡ keeping t (i + 1) [] ++ labels_from A s (i + 1 + 1)
labels_next A s i t l e =
    let k : i + 1 - 1 ≡ i = omega arith in
    labels_here A s (i + 1) (omega arith)
    ∙ ap (λ b. keeping b (i + 1) [] ++ labels_from A s (i + 1 + 1)) (ap (λ j. member_of s (get_or A j 0)) k ∙ sym e)

pub loop-i-init : goal.loop-i-init
loop-i-init c =
    let a = c.args in
    let A = a.self.now.alphabet.now in
    let s = set_at a.self.now.text.now a.at in
    let l = a.labels.now in
    subst (λ t. Filling (take a.n l ++ labels_of_set A s) l l t a.n) (labels_first A s) (filling_from (labels_of_set A s) l a.n c.requires.alphabet_len_bound.1)

pub bounds-labels-m : goal.bounds-labels-m
bounds-labels-m c =
    let a = c.args in
    let A = a.self.now.alphabet.now in
    let s = set_at a.self.now.text.now a.at in
    let f = a.labels.now in
    let l = c.loop-i in
    let r = filling_room (take a.n f ++ labels_of_set A s) f ((l.i + 1) ∷ []) l.labels (labels_from A s (l.i + 1 + 1)) l.m
    (rw (labels_next A s l.i true (omega arith) (sym c.if-member.true ∙ c.member.ensures)) at l.invariant) in
    omega arith

pub loop-i-preserved : goal.loop-i-preserved
loop-i-preserved c =
    let a = c.args in
    let A = a.self.now.alphabet.now in
    let s = set_at a.self.now.text.now a.at in
    let f = a.labels.now in
    let l = c.loop-i in
    elim c.if-member.branch [
      | then-member w ↦
          rw (w.labels-is, w.m-is) (filling_more (take a.n f ++ labels_of_set A s) f l.labels (labels_from A s (l.i + 1 + 1)) l.m (l.i + 1)
          (rw (labels_next A s l.i true (omega arith) (sym w.if-member.true ∙ c.member.ensures)) at l.invariant))
      | else-member w ↦
          rw (w.labels-is, w.m-is) (rw (labels_next A s l.i false (omega arith) (sym w.if-member.false ∙ c.member.ensures)) at l.invariant)
    ]

pub returns : goal.returns
returns c =
    let a = c.args in
    let A = a.self.now.alphabet.now in
    let s = set_at a.self.now.text.now a.at in
    let f = a.labels.now in
    let l = c.loop-i in
    filling_stored_all (labels_of_set A s) f a.n c.requires.alphabet_len_bound.1 l.labels l.m (rw (labels_past A s (l.i + 1) (omega arith)) at l.invariant)
