-- A tree opens into as many letters as `letter_count` says (document 01, "Opening and the compiled form").
use Rattle.std.specs.Prelude.{ℕ, zero, suc, ◌+◌, ◌-◌, ◌*◌, ◌≡◌, refl, cond, List, [], ◌∷◌, length, get_or}
use Rattle.std.proofs.Common.{sym, ap, ◌∙◌, add-mul, arith, length-append}
use Rattle.lists.proofs.AmongLaws.{keep_same, keeping_length}
use Rattle.lists.specs.Lists.{keep, numbers}
use Rattle.lists.proofs.AscendingLaws.{numbers_among}
use Rattle.regex_tree.specs.Tree.{Set, Count, between, onward, Tree, set, group, times, join, either, member}
use Rattle.regex_tree.specs.Letters.{labels_of, copies_of, letter_count}
use Rattle.regex_tree.proofs.OwnCountsLaws.{InRange}
use Rattle.regex_tree.proofs.SenseLaws.{Sensible}
use Rattle.positions.specs.Opened.{Opened, plus, labels_of_set, any_of, copies, nested, repeated, opened, labels, letters}

-- the labels of a set are counted, where the first character has label y
pub labels_counted : (y : ℕ) (A : List ℕ) (c : Set) → length (keep (λ x. member c (get_or A (x - y) 0)) (numbers y (length A))) ≡ labels_of A c
unfolding keep numbers labels_of
labels_counted y [] c = refl
labels_counted y (b ∷ A) c =
    let l : List ℕ = numbers (suc y) (length A) in
    let z : y - y ≡ 0 = omega arith in
    let same : keep (λ x. member c (get_or (b ∷ A) (x - y) 0)) l ≡ keep (λ x. member c (get_or A (x - suc y) 0)) l =
    keep_same (λ x. member c (get_or (b ∷ A) (x - y) 0)) (λ x. member c (get_or A (x - suc y) 0)) l (λ x m.
    let n = numbers_among (suc y) (length A) x m in
    let e : x - y ≡ suc (x - suc y) = omega arith in
    ap (λ i. member c (get_or (b ∷ A) i 0)) e) in
    rw (z, same) (keeping_length (member c b) y (keep (λ x. member c (get_or A (x - suc y) 0)) l) ∙ ap (λ k. cond (member c b) 1 0 + k) (labels_counted (suc y) A c))

pub any_of_labels : (l : List ℕ) → labels (any_of l) ≡ l
unfolding any_of labels
any_of_labels [] = refl
any_of_labels (x ∷ l) = ap (λ k. x ∷ k) (any_of_labels l)

copies_letters : (r t : Opened) (n : ℕ) → letters (copies r n t) ≡ n * letters r + letters t
unfolding copies labels
copies_letters r t zero = omega arith
copies_letters r t (suc n) = rw (length-append (labels r) (labels (copies r n t))) (let h = copies_letters r t n in omega arith)

nested_letters : (r : Opened) (k : ℕ) → letters (nested r k) ≡ k * letters r
unfolding nested labels
nested_letters r zero = omega arith
nested_letters r (suc k) = rw (length-append (labels r) (labels (nested r k))) (let h = nested_letters r k in omega arith)

repeated_letters : (r : Opened) (c : Count) → InRange c → letters (repeated r c) ≡ copies_of c * letters r
unfolding repeated labels
repeated_letters r (between n m) o =
    let e : n + (m - n) ≡ m = omega arith in
    copies_letters r (nested r (m - n)) n ∙ rw nested_letters (sym (add-mul n (m - n) (letters r))) ∙ ap (λ k. k * letters r) e
repeated_letters r (onward zero) o = omega arith
repeated_letters r (onward (suc n)) o = let h = copies_letters r (plus r) n in omega arith

pub opened_letters : (A : List ℕ) (t : Tree) → Sensible A t → letters (opened A t) ≡ letter_count A t
unfolding opened labels letter_count
opened_letters A (set c) o = ap length (any_of_labels (labels_of_set A c)) ∙ labels_counted 1 A c
opened_letters A (group r) o = opened_letters A r o
opened_letters A (times r c) o = repeated_letters (opened A r) c o.1 ∙ ap (λ k. copies_of c * k) (opened_letters A r o.0)
opened_letters A (join r s) o = rw (length-append (labels (opened A r)) (labels (opened A s)), opened_letters A r o.0, opened_letters A s o.1)
opened_letters A (either r s) o = rw (length-append (labels (opened A r)) (labels (opened A s)), opened_letters A r o.0, opened_letters A s o.1)
