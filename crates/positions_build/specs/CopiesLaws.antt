-- A repetition copy by copy: what is left of it after some copies, and what the next copy adds (document 01, "Opening and the compiled
-- form").
use Prim.Native.Nat.{ℕ, zero, suc, ◌+◌, ◌-◌, ◌≤◌, ◌<◌}
use Rattle.std.specs.Prelude.{◌≡◌, refl, ◌⊎◌, Bool, true, false, leb}
use Rattle.std.proofs.Common.{sym, ◌∙◌, inl, inr, append-nil, le-leb}
use native.Mathlib.Omega.{arith}
use Rattle.std.proofs.lemmas.Bool.{lt-leb}
use Rattle.lists.proofs.OrderLaws.{lt_or_le}
use Rattle.regex_tree.specs.Tree.{Count, between, onward}
use Rattle.regex_tree.specs.Letters.{copies_of}
use Rattle.regex_tree.proofs.OwnCountsLaws.{InRange}
use Rattle.positions.specs.Opened.{Opened, joining, optional, plus, star, empty, labels, repeated}
use Rattle.positions.specs.Numbered.{numbered}
use Rattle.positions.proofs.EquationsLaws.{Same, between_none, between_needed, between_spare, onward_more, onward_one, onward_none, joined_empty}
use Rattle.positions_letters.specs.Copies.{least_of, is_onward}
use Rattle.positions_build.specs.Places.{fewer}

-- `spared`: r or nothing if the flag is true; `looped`: r once or more if the flag is true
unfoldable pub spared : Bool → Opened → Opened
spared true r = optional r
spared false r = r

unfoldable pub looped : Bool → Opened → Opened
looped true r = plus r
looped false r = r

-- the same labels and positions
pub record Alike (r s : Opened) : Type 0 where
  pub labelled : labels r ≡ labels s
  pub numbers : (n : ℕ) → Same (numbered n r) (numbered n s)

pub alike_by : (r s : Opened) → r ≡ s → Alike r s
alike_by r s e = rw e (record { labelled = refl; numbers = λ n. record { nullable = refl; first = λ i. refl; last = λ i. refl; follow = λ i j. refl } })

pub alike_then : {r s t : Opened} → Alike r s → Alike s t → Alike r t
alike_then x y =
    record {
      labelled = x.labelled ∙ y.labelled;
      numbers = λ n.
          let g = x.numbers n in
          let h = y.numbers n in
          record {
            nullable = g.nullable ∙ h.nullable;
            first = λ i. g.first i ∙ h.first i;
            last = λ i. g.last i ∙ h.last i;
            follow = λ i j. g.follow i j ∙ h.follow i j;
          };
    }

alike_back : {r s : Opened} → Alike r s → Alike s r
alike_back x =
    record {
      labelled = sym x.labelled;
      numbers = λ n.
          let h = x.numbers n in
          record { nullable = sym h.nullable; first = λ i. sym (h.first i); last = λ i. sym (h.last i); follow = λ i j. sym (h.follow i j) };
    }

alike_empty : (r : Opened) → Alike (joining r empty) r
unfolding labels
alike_empty r = record { labelled = append-nil (labels r); numbers = λ n. joined_empty n r }

alike_optional : (r s : Opened) → Alike r s → Alike (optional r) (optional s)
unfolding labels numbered
alike_optional r s h =
    record {
      labelled = h.labelled;
      numbers = λ n. record { nullable = refl; first = (h.numbers n).first; last = (h.numbers n).last; follow = (h.numbers n).follow };
    }

alike_star : (r : Opened) → Alike (optional (plus r)) (star r)
unfolding labels numbered
alike_star r = record { labelled = refl; numbers = λ n. record { nullable = refl; first = λ i. refl; last = λ i. refl; follow = λ i j. refl } }

-- a repetition opens into at most 255 copies
pub copies_few : (c : Count) → InRange c → copies_of c ≤ 255
copies_few (between n m) o = o.2
copies_few (onward zero) o = omega arith
copies_few (onward (suc n)) o = o

pub fewer_none : (c : Count) → fewer c 0 ≡ c
fewer_none (between n m) =
    let x : n - 0 ≡ n = omega arith in
    let y : m - 0 ≡ m = omega arith in
    rw (x, y)
fewer_none (onward n) = let x : n - 0 ≡ n = omega arith in rw x

module _ (r : Opened) where
  -- one copy
  pub one_copy : Alike (repeated r (between 1 1)) r
  one_copy = rw (between_needed r 0 0, between_none r) (alike_empty r)

  -- the last copy
  pub last_copy : (c : Count) (k : ℕ) → InRange c → k + 1 ≡ copies_of c → Alike (spared (leb (least_of c) k) (looped (is_onward c) r)) (repeated r (fewer c k))
  unfolding spared looped
  last_copy (between n m) k o e = by (lt_or_le k n)
    where
      most : m - k ≡ 1
      most = omega arith

      by : (k < n) ⊎ (n ≤ k) → Alike (spared (leb n k) r) (repeated r (between (n - k) (m - k)))
      by (inl l) = let z : n - k ≡ 1 = omega arith in rw (lt-leb n k l, z, most, between_needed r 0 0, between_none r) (alike_back (alike_empty r))
      by (inr l) =
          let z : n - k ≡ 0 = omega arith in
          rw (le-leb n k l, z, most, between_spare r 0, between_none r) (alike_optional r (joining r empty) (alike_back (alike_empty r)))
  last_copy (onward zero) k o e =
      let z : 0 - k ≡ 0 = omega arith in
      rw (le-leb 0 k (omega arith), z, onward_none r) (alike_star r)
  last_copy (onward (suc n)) k o e =
      let z : suc n - k ≡ 1 = omega arith in
      rw (lt-leb (suc n) k (omega arith), z, onward_one r) (alike_by (plus r) (plus r) refl)

  -- a copy that is not the last
  pub next_copy : (c : Count) (k : ℕ) → k + 1 < copies_of c → repeated r (fewer c k) ≡ spared (leb (least_of c) k) (joining r (repeated r (fewer c (k + 1))))
  unfolding spared
  next_copy (between n m) k l = by (lt_or_le k n)
    where
      most : m - k ≡ suc (m - (k + 1))
      most = omega arith

      by :
          (k < n) ⊎ (n ≤ k)
          → repeated r (between (n - k) (m - k)) ≡ spared (leb n k) (joining r (repeated r (between (n - (k + 1)) (m - (k + 1)))))
      by (inl h) =
          let z : n - k ≡ suc (n - (k + 1)) = omega arith in
          rw (lt-leb n k h, z, most) (between_needed r (n - (k + 1)) (m - (k + 1)))
      by (inr h) =
          let z : n - k ≡ 0 = omega arith in
          let y : n - (k + 1) ≡ 0 = omega arith in
          rw (le-leb n k h, z, y, most) (between_spare r (m - (k + 1)))
  next_copy (onward zero) k l = absurd (omega arith)
  next_copy (onward (suc n)) k l =
      let z : suc n - k ≡ suc (suc (n - (k + 1))) = omega arith in
      let y : suc n - (k + 1) ≡ suc (n - (k + 1)) = omega arith in
      rw (lt-leb (suc n) k (omega arith), z, y) (onward_more r (n - (k + 1)))
