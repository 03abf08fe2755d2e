-- Bytes copied into their place, and two pieces written one after the other.
use Rattle.std.specs.Prelude.{ℕ, ◌+◌, ◌-◌, ◌≤◌, ◌≡◌, refl, List, ◌++◌, length, take, drop}
use Rattle.std.proofs.Common.{sym, ap, ◌∙◌, arith, append_assoc, length-append, drop-drop}
use Rattle.std.proofs.lemmas.List.Edits.{sets-eq}
use borrow.Rule.Slice.PartMut.{put_mid}
use Rattle.lists.proofs.WrittenLaws.{stored_then, stored_size}
use Rattle.lists.specs.Stored.{Stored}

-- front and back are the whole: there is room for both, and what is stored then
module _ (whole front back before : List ℕ) (n : ℕ) (is : whole ≡ front ++ back) (room : n + length whole ≤ length before) where
  pub front_room : n + length front ≤ length before
  front_room = omega (arith, ap length is, length-append front back)

  module _ (middle : List ℕ) (k : ℕ) (s : Stored front n before middle k) where
    pub back_room : k + length back ≤ length middle
    back_room = let e = s.next in omega (arith, ap length is, length-append front back, stored_size s)

    pub both_stored : (after : List ℕ) (r : ℕ) → Stored back k middle after r → Stored whole n before after r
    both_stored after r t = rw is (stored_then s t)

-- what was copied to the places from n on is stored there
pub copied :
    (bytes before : List ℕ) (n : ℕ) → n + length bytes ≤ length before
    → Stored bytes n before (put_mid n (n + length bytes - n) before bytes) (n + length bytes)
copied bytes before n room =
    let k : n + (n + length bytes - n) ≡ n + length bytes = omega arith in
    let e = drop-drop (n + length bytes - n) n before ∙ ap (λ (j : ℕ). drop j before) k in
    record { next = refl; memory = ap (λ l. take n before ++ (bytes ++ l)) e ∙ sym (sets-eq bytes before n room ∙ append_assoc (take n before) bytes (drop (n + length bytes) before)) }
