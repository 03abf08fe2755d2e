-- A set built as letters: its labels and its range a step at a time, as the loops of `write_labels` and `range` go, and then the whole.
use Rattle.std.specs.Prelude.{ℕ, zero, suc, ◌+◌, ◌-◌, ◌≤◌, ◌<◌, ◌≡◌, ◌⊎◌, Bool, ◌&&◌, ◌||◌, length, get_or, set, replicate, leb, ltb}
use Rattle.std.proofs.Math.Path.{refl, ap}
use Rattle.std.proofs.Common.{sym, ◌∙◌, inl, inr, arith, get_or-set_same, get_or-set_other, le-leb, lt-ltb, le-ltb}
use Rattle.std.proofs.Math.Bool.{true, false, or-false, and-false}
use mathlib.Core.List.{List, [], ◌++◌}
use Rattle.std.proofs.lemmas.Bool.{lt-leb}
use Rattle.lists.proofs.OrderLaws.{lt_or_le, eq_or_ne}
use Rattle.lists.specs.Lists.{keep, keeping, numbers}
use Rattle.lists.proofs.AscendingLaws.{numbers_here, numbers_past}
use Rattle.lists.specs.Stored.{Stored}
use Rattle.positions_follow.specs.Sets.{member, arc}
use Rattle.alphabet.specs.Labels.{character}
use Rattle.regex_tree.specs.Tree.{Set, member as member_of}
use Rattle.positions.specs.Opened.{labels_of_set, any_of}
use Rattle.positions.proofs.EquationsLaws.{alone, numbered_any_of}
use Rattle.positions.proofs.LettersLaws.{any_of_labels}
use Rattle.positions_letters.specs.Shows.{Builds}
use Rattle.positions_letters.specs.Letters.{Ranged}

-- The labels still to come when the loop is at a label.
module _ (A : List ℕ) (c : Set) where
  abbrev pub passes : ℕ → Bool
  passes x = member_of c (character A x)

  abbrev pub labels_from : ℕ → List ℕ
  labels_from x = keep passes (numbers x (length A + 1 - x))

  pub labels_first : labels_of_set A c ≡ labels_from 1
  labels_first = let e : length A + 1 - 1 ≡ length A = omega arith in ap (λ n. keep passes (numbers 1 n)) (sym e)

  pub labels_here : (x : ℕ) → x ≤ length A → labels_from x ≡ keeping (passes x) x [] ++ labels_from (x + 1)
  unfolding keep
  labels_here x l = ap (keep passes) (numbers_here x (length A + 1) (omega arith)) ∙ by (passes x)
    where
      by : (t : Bool) → keeping t x (labels_from (x + 1)) ≡ keeping t x [] ++ labels_from (x + 1)
      by true = refl
      by false = refl

  pub labels_past : (x : ℕ) → length A < x → labels_from x ≡ []
  unfolding keep
  labels_past x l = ap (keep passes) (numbers_past x (length A + 1) (omega arith))

pub none_marked : (k i : ℕ) → get_or (replicate k false) i false ≡ false
none_marked zero i = refl
none_marked (suc k) zero = refl
none_marked (suc k) (suc i) = none_marked k i

pub range_none : (n : ℕ) → Ranged n n (replicate 127 false)
unfolding Ranged
range_none n i = none_marked 127 i ∙ by (lt_or_le i n)
  where
    by : (i < n) ⊎ (n ≤ i) → false ≡ (leb (suc n) (suc i) && ltb (suc i) (suc n))
    by (inl l) = rw (lt-leb (suc n) (suc i) (omega arith))
    by (inr l) = rw (le-ltb (suc i) (suc n) (omega arith)) (sym (and-false (leb (suc n) (suc i))))

pub range_more : (n m : ℕ) (r : List Bool) → n ≤ m → m < length r → Ranged n m r → Ranged n (m + 1) (set r m true)
unfolding Ranged
range_more n m r l inside h i = by (eq_or_ne i m) (lt_or_le i m)
  where
    by : (i ≡ m) ⊎ (i ≡ m → ⊥) → (i < m) ⊎ (m ≤ i) → member (set r m true) i ≡ (leb (suc n) (suc i) && ltb (suc i) (suc (m + 1)))
    by (inl e) d =
        rw (e, le-leb (suc n) (suc m) (omega arith), lt-ltb (suc m) (suc (m + 1)) (omega arith)) (get_or-set_same r m true false inside)
    by (inr f) (inl d) =
        get_or-set_other r m i true false f ∙ h i
        ∙ ap (λ t. leb (suc n) (suc i) && t) (lt-ltb (suc i) (suc m) (omega arith) ∙ sym (lt-ltb (suc i) (suc (m + 1)) (omega arith)))
    by (inr f) (inr d) =
        get_or-set_other r m i true false f ∙ h i
        ∙ ap (λ t. leb (suc n) (suc i) && t) (le-ltb (suc i) (suc m) (omega arith) ∙ sym (le-ltb (suc i) (suc (m + 1)) (omega arith)))

pub set_builds :
    (n m e end : ℕ) (l old new : List ℕ) (first : List Bool) (f : List (List Bool)) → end ≡ e → Stored l n old new m → Ranged n m first
    → Builds n (any_of l) e f f old new (record { end = end; letters = m; nullable = false; first = first; last = first })
unfolding Ranged
set_builds n m e end l old new first f q s h =
    let next = s.next in
    let z : suc m ≡ suc n + length l = omega arith in
    let w = numbered_any_of (suc n) l in
    record {
      ends = q;
      stored = rw (any_of_labels l) s;
      shows =
          record {
            nullable = sym w.nullable;
            first = λ i. h i ∙ ap (λ k. (alone (suc n) k).first (suc i)) z ∙ sym (w.first (suc i));
            last = λ i. h i ∙ ap (λ k. (alone (suc n) k).last (suc i)) z ∙ sym (w.last (suc i));
            size = refl;
            arcs = λ i j. sym (ap (λ t. arc f i j || t) (w.follow (suc i) (suc j)) ∙ or-false (arc f i j));
          };
    }
