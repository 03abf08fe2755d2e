-- Equations for numbered letters: how many a joining and an alternation have, a set of labels as a whole, and a repetition copy by copy.
-- A property that each shape keeps holds of a repetition.
use Prim.Native.Nat.{ℕ, zero, suc, ◌+◌, ◌-◌, ◌≤◌, ◌<◌}
use Rattle.std.specs.Prelude.{◌≡◌, refl, ◌⊎◌, false, ◌&&◌, ◌||◌, List, [], ◌∷◌, length, eqb, leb, ltb}
use Rattle.std.proofs.Common.{sym, inl, inr, arith, length-append, eq-eqb, ne_eqb, le-leb, lt-ltb, le-ltb}
use Rattle.std.proofs.Math.Bool.{or-false, and-true, and-false}
use Rattle.std.proofs.lemmas.Bool.{lt-leb}
use Rattle.lists.proofs.OrderLaws.{lt_or_le, eq_or_ne}
use Rattle.regex_tree.specs.Tree.{Count, between, onward}
use Rattle.positions.specs.Opened.{Opened, joining, alternation, optional, star, plus, empty, any_of, copies, nested, repeated, labels, letters}
use Rattle.positions.specs.Numbered.{Positions, numbered}

pub letters_joining : (r s : Opened) → letters (joining r s) ≡ letters r + letters s
unfolding labels
letters_joining r s = length-append (labels r) (labels s)

pub letters_alternation : (r s : Opened) → letters (alternation r s) ≡ letters r + letters s
unfolding labels
letters_alternation r s = length-append (labels r) (labels s)

-- the same empty word, first letters, last letters and arcs
pub record Same (p q : Positions) : Type 0 where
  pub nullable : p.nullable ≡ q.nullable
  pub first : (i : ℕ) → p.first i ≡ q.first i
  pub last : (i : ℕ) → p.last i ≡ q.last i
  pub follow : (i j : ℕ) → p.follow i j ≡ q.follow i j

-- the empty word after a part changes nothing
pub joined_empty : (n : ℕ) (r : Opened) → Same (numbered n (joining r empty)) (numbered n r)
unfolding numbered
joined_empty n r =
    let p = numbered n r in
    record {
      nullable = and-true p.nullable;
      first = λ i. rw (and-false p.nullable) (or-false (p.first i));
      last = λ i. refl;
      follow = λ i j. rw (and-false (p.last i), or-false (p.follow i j)) (or-false (p.follow i j));
    }

-- the letters n to m - 1, each alone
abbrev pub alone : ℕ → ℕ → Positions
alone n m = record { nullable = false; first = λ i. leb n i && ltb i m; last = λ i. leb n i && ltb i m; follow = λ i j. false }

no_more : (n i : ℕ) → false ≡ (leb n i && ltb i (n + 0))
no_more n i = by (lt_or_le i n)
  where
    by : (i < n) ⊎ (n ≤ i) → false ≡ (leb n i && ltb i (n + 0))
    by (inl d) = rw (lt-leb n i d)
    by (inr d) = rw (le-ltb i (n + 0) (omega arith)) (sym (and-false (leb n i)))

one_more : (n k i : ℕ) → (eqb i n || leb (n + 1) i && ltb i (n + 1 + k)) ≡ (leb n i && ltb i (n + suc k))
one_more n k i = by (eq_or_ne i n) (lt_or_le i n)
  where
    same : n + 1 + k ≡ n + suc k
    same = omega arith

    by : (i ≡ n) ⊎ (i ≡ n → ⊥) → (i < n) ⊎ (n ≤ i) → (eqb i n || leb (n + 1) i && ltb i (n + 1 + k)) ≡ (leb n i && ltb i (n + suc k))
    by (inl e) d = rw (eq-eqb i n e, le-leb n i (omega arith), lt-ltb i (n + suc k) (omega arith))
    by (inr f) (inl d) = rw (ne_eqb i n f, lt-leb (n + 1) i (omega arith), lt-leb n i d)
    by (inr f) (inr d) = rw (ne_eqb i n f, le-leb (n + 1) i (omega arith), le-leb n i d, same)

pub numbered_any_of : (n : ℕ) (l : List ℕ) → Same (numbered n (any_of l)) (alone n (n + length l))
unfolding numbered any_of labels
numbered_any_of n [] = record { nullable = refl; first = no_more n; last = no_more n; follow = λ i j. refl }
numbered_any_of n (x ∷ l) =
    let h = numbered_any_of (n + 1) l in
    record {
      nullable = h.nullable;
      first = λ i. rw (h.first i) (one_more n (length l) i);
      last = λ i. rw (h.last i) (one_more n (length l) i);
      follow = h.follow;
    }

-- A repetition, copy by copy.
pub between_none : (r : Opened) → repeated r (between 0 0) ≡ empty
unfolding repeated copies nested
between_none r = refl

pub between_needed : (r : Opened) (n m : ℕ) → repeated r (between (suc n) (suc m)) ≡ joining r (repeated r (between n m))
unfolding repeated copies
between_needed r n m = let z : suc m - suc n ≡ m - n = omega arith in rw z

pub between_spare : (r : Opened) (m : ℕ) → repeated r (between 0 (suc m)) ≡ optional (joining r (repeated r (between 0 m)))
unfolding repeated copies nested
between_spare r m = let y : suc m - 0 ≡ suc m = omega arith in let z : m - 0 ≡ m = omega arith in rw (y, z)

pub onward_more : (r : Opened) (n : ℕ) → repeated r (onward (suc (suc n))) ≡ joining r (repeated r (onward (suc n)))
unfolding repeated copies
onward_more r n = refl

pub onward_one : (r : Opened) → repeated r (onward 1) ≡ plus r
unfolding repeated copies
onward_one r = refl

pub onward_none : (r : Opened) → repeated r (onward 0) ≡ star r
unfolding repeated
onward_none r = refl

-- A property that each shape keeps holds of a repetition.
pub record Kept (Q : Opened → Type 0) : Type 0 where
  pub joins : (r s : Opened) → Q r → Q s → Q (joining r s)
  pub optionals : (r : Opened) → Q r → Q (optional r)
  pub stars : (r : Opened) → Q r → Q (star r)
  pub pluses : (r : Opened) → Q r → Q (plus r)
  pub none : Q empty

module _ (Q : Opened → Type 0) (k : Kept Q) (r : Opened) (h : Q r) where
  copies_kept : (t : Opened) → Q t → (n : ℕ) → Q (copies r n t)
  unfolding copies
  copies_kept t g zero = g
  copies_kept t g (suc n) = k.joins r (copies r n t) h (copies_kept t g n)

  nested_kept : (m : ℕ) → Q (nested r m)
  unfolding nested
  nested_kept zero = k.none
  nested_kept (suc m) = k.optionals (joining r (nested r m)) (k.joins r (nested r m) h (nested_kept m))

  pub repeated_kept : (c : Count) → Q (repeated r c)
  unfolding repeated
  repeated_kept (between n m) = copies_kept (nested r (m - n)) (nested_kept (m - n)) n
  repeated_kept (onward zero) = k.stars r h
  repeated_kept (onward (suc n)) = copies_kept (plus r) (k.pluses r h) n
