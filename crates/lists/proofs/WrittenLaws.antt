-- Laws of `written` and `Stored`: lent memory after a list was written to its front, or from a place on.
use Prim.Native.Nat.{ℕ, suc, ◌+◌, ◌-◌, ◌<◌, ◌≤◌}
use Rattle.std.specs.Prelude.{◌≡◌, List, [], ◌∷◌, ◌++◌, take}
use Rattle.std.proofs.Math.Path.{refl, sym, ap}
use Rattle.std.proofs.Common.{◌∙◌, append_assoc, length-drop, length-take-le, drop_at}
use native.Mathlib.Omega.{arith}
use Rattle.std.proofs.Math.ListN.{length, get_or, drop, set, length-append, get_or-append}
use Rattle.std.proofs.Math.Seq.{drop-cons, set_at, length-sets, take_at, get_or-append-add, get_or-drop}
use Rattle.std.proofs.lemmas.List.Edits.{sets, sets-eq}
use Rattle.lists.specs.Memory.{written}
use Rattle.lists.specs.Stored.{Stored}

module _ {A : Type 0} where
  pub written_none : (m : List A) → written [] m ≡ m
  unfolding written
  written_none m = refl

  pub length_written : (w m : List A) → length w ≤ length m → length (written w m) ≡ length m
  unfolding written
  length_written w m h = simp (length-append, length-drop) (omega arith)

  -- one more element
  pub written_more : (w m : List A) (n : ℕ) (a : A) → length w ≡ n → n < length m → set (written w m) n a ≡ written (w ++ (a ∷ [])) m
  unfolding written
  written_more w m n a e h =
      let size : suc n ≡ length (w ++ (a ∷ [])) = simp length-append (omega arith) in
      ap (λ l. set (w ++ l) n a) (ap (λ k. drop k m) e ∙ drop-cons m n a h)
      ∙ set_at w (get_or m n a) (drop (suc n) m) a n e
      ∙ sym (append_assoc w (a ∷ []) (drop (suc n) m))
      ∙ ap (λ k. (w ++ (a ∷ [])) ++ drop k m) size

  -- after what is written the memory is as it was
  pub written_beyond : (d : A) (w m : List A) (k : ℕ) → length w ≤ k → get_or (written w m) k d ≡ get_or m k d
  unfolding written
  written_beyond d w m k h =
      let e : length w + (k - length w) ≡ k = omega arith in
      ap (λ n. get_or (w ++ drop (length w) m) n d) (sym e) ∙ get_or-append-add w (drop (length w) m) (k - length w) d
      ∙ get_or-drop (length w) m (k - length w) d ∙ ap (λ n. get_or m n d) e

  -- a list of the same length written over it
  pub written_over : (c w m : List A) → length c ≡ length w → written c (written w m) ≡ written c m
  unfolding written
  written_over c w m e = ap (λ l. c ++ l) (drop_at w (drop (length w) m) (length c) (sym e) ∙ ap (λ n. drop n m) (sym e))

  pub take_written : (w m : List A) (n : ℕ) → n ≡ length w → take n (written w m) ≡ w
  unfolding written
  take_written w m n e = take_at w (drop (length w) m) n (sym e)

  -- what is written fits
  pub written_fits : (w m : List A) → length w ≤ length (written w m)
  unfolding written
  written_fits w m = omega (arith, length-append w (drop (length w) m))

  pub stored_size : {c before after : List A} {n answer : ℕ} → Stored c n before after answer → length after ≡ length before
  stored_size {c} {before} {after} {n} s = ap length s.memory ∙ length-sets before n c

  -- one list after another
  sets_append : (c d m : List A) (n : ℕ) → sets (sets m n c) (n + length c) d ≡ sets m n (c ++ d)
  sets_append [] d m n = ap (λ k. sets m k d) (omega arith)
  sets_append (x ∷ c) d m n = ap (λ k. sets (sets (set m n x) (suc n) c) k d) (omega arith) ∙ sets_append c d (set m n x) (suc n)

  pub stored_then :
      {c d before middle after : List A} {n next answer : ℕ} → Stored c n before middle next → Stored d next middle after answer
      → Stored (c ++ d) n before after answer
  stored_then {c} {d} {before} {middle} {after} {n} {next} {answer} s t =
      let size = length-append c d in
      let e = s.next in
      let f = t.next in
      record {
        next = omega arith;
        memory = t.memory ∙ ap (λ k. sets middle k d) e ∙ ap (λ m. sets m (n + length c) d) s.memory ∙ sets_append c d before n;
      }

  -- what was stored is there
  pub stored_at :
      {c before after : List A} {n answer : ℕ} (d : A) (i : ℕ) → Stored c n before after answer → n + length c ≤ length before → i < length c
      → get_or after (n + i) d ≡ get_or c i d
  stored_at {c} {before} {after} {n} d i s room inside =
      let front = take n before in
      let size : length front ≡ n = length-take-le n before (omega arith) in
      ap (λ m. get_or m (n + i) d) (s.memory ∙ sets-eq c before n room ∙ append_assoc front c (drop (n + length c) before))
      ∙ ap (λ k. get_or (front ++ (c ++ drop (n + length c) before)) (k + i) d) (sym size)
      ∙ get_or-append-add front (c ++ drop (n + length c) before) i d
      ∙ get_or-append c (drop (n + length c) before) d i inside
