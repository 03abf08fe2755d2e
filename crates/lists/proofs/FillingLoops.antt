-- Principles of the loop that writes a list into lent memory, at its front or from a place on.
use Rattle.std.specs.Prelude.{ℕ, suc, ◌+◌, ◌<◌, ◌≤◌, ◌≡◌, refl, List, [], ◌∷◌, ◌++◌, get_or, set}
use Rattle.std.proofs.Math.Path.{sym, ap}
use Rattle.std.proofs.Common.{◌∙◌, subst, append-nil, add-one, arith, length-drop, drop-cons, take-suc, length-take-le, take_at}
use Rattle.std.proofs.Math.ListN.{length, take, drop, length-append, take-append-drop}
use Rattle.std.proofs.lemmas.List.Edits.{sets}
use Rattle.std.proofs.Math.Seq.{take-length, drop_at}
use Rattle.lists.specs.Memory.{written, Wrote}
use Rattle.lists.specs.Stored.{Stored}
use Rattle.lists.proofs.WrittenLaws.{written_none, length_written, written_more}

module _ {A : Type 0} where
  -- In a loop that writes `whole` to the front of `memory`: n elements are written, and `todo` remains to be written.
  pub record Filling (whole memory : List A) (present todo : List A) (n : ℕ) : Type 0 where
    pub room : length whole ≤ length memory
    pub within : n ≤ length whole
    pub left : drop n whole ≡ todo
    pub so_far : present ≡ written (take n whole) memory

  module _ (whole memory : List A) where
    pub filling_none : length whole ≤ length memory → Filling whole memory memory whole 0
    filling_none h = record { room = h; within = omega arith; left = refl; so_far = sym (written_none memory) }

    shorter : (todo : List A) (n : ℕ) (x : A) → drop n whole ≡ x ∷ todo → n < length whole
    shorter todo n x e = let l = ap length e in omega (arith, length-drop n whole)

    pub filling_more :
        (present todo : List A) (n : ℕ) (x : A) → Filling whole memory present (x ∷ todo) n → Filling whole memory (set present n x) todo (n + 1)
    filling_more present todo n x f =
        let h : n < length whole = shorter todo n x f.left in
        let r : length whole ≤ length memory = f.room in
        let both : get_or whole n x ∷ drop (suc n) whole ≡ x ∷ todo = sym (drop-cons whole n x h) ∙ f.left in
        let one : get_or whole n x ≡ x = cc in
        let size : length (take n whole) ≡ n = length-take-le n whole f.within in
        record {
          room = r;
          within = omega arith;
          left = ap (λ k. drop k whole) (add-one n) ∙ (cc);
          so_far =
              ap (λ l. set l n x) f.so_far
              ∙ written_more (take n whole) memory n x size (omega arith)
              ∙ ap (λ l. written l memory) (ap (λ a. take n whole ++ (a ∷ [])) (sym one) ∙ sym (take-suc whole n x h) ∙ ap (λ k. take k whole) (sym (add-one n)));
        }

    -- several at once
    pub filling_some :
        (c present todo : List A) (n : ℕ) → Filling whole memory present (c ++ todo) n → Filling whole memory (sets present n c) todo (n + length c)
    filling_some [] present todo n f = subst (Filling whole memory present todo) (omega arith) f
    filling_some (x ∷ c) present todo n f =
        subst (Filling whole memory (sets present n (x ∷ c)) todo) (omega arith)
        (subst (λ k. Filling whole memory (sets (set present n x) k c) todo (k + length c)) (add-one n)
        (filling_some c (set present n x) todo (n + 1) (filling_more present (c ++ todo) n x f)))

    pub filling_stored :
        (c present after todo : List A) (n next : ℕ) → Filling whole memory present (c ++ todo) n → Stored c n present after next
        → Filling whole memory after todo next
    filling_stored c present after todo n next f s = rw (s.memory, s.next) (filling_some c present todo n f)

    pub filling_length : (present todo : List A) (n : ℕ) → Filling whole memory present todo n → length present ≡ length memory
    filling_length present todo n f =
        let r = f.room in
        ap length f.so_far ∙ length_written (take n whole) memory (let z = length-take-le n whole f.within in omega arith)

    -- the memory has room for what comes next
    pub filling_room : (c present todo : List A) (n : ℕ) → Filling whole memory present (c ++ todo) n → n + length c ≤ length present
    filling_room c present todo n f =
        let l = ap length f.left in
        let w = f.within in
        let r = f.room in
        let e = filling_length present (c ++ todo) n f in
        omega (arith, length-drop n whole, length-append c todo)

    pub filling_all : (present : List A) (n : ℕ) → Filling whole memory present [] n → Wrote whole memory present n
    filling_all present n f =
        let w = f.within in
        let e : n ≡ length whole = let l = ap length f.left in omega (arith, length-drop n whole) in
        record { count = e; memory = f.so_far ∙ ap (λ l. written l memory) (ap (λ k. take k whole) e ∙ take-length whole) }

  -- Storing a list from place n on is such a loop too: what is before the place counts as written.
  module _ (c memory : List A) (n : ℕ) (room : n + length c ≤ length memory) where
    front : length (take n memory) ≡ n
    front = length-take-le n memory (omega arith)

    pub filling_from : Filling (take n memory ++ c) memory memory c n
    unfolding written
    filling_from =
        let size : length (take n memory ++ c) ≡ n + length c = length-append (take n memory) c ∙ ap (λ k. k + length c) front in
        record {
          room = omega arith;
          within = omega arith;
          left = drop_at (take n memory) c n front;
          so_far =
              sym
              (ap (λ l. written l memory) (take_at (take n memory) c n front)
              ∙ ap (λ k. take n memory ++ drop k memory) front
              ∙ take-append-drop n memory);
        }

    pub filling_stored_all : (after : List A) (next : ℕ) → Filling (take n memory ++ c) memory after [] next → Stored c n memory after next
    filling_stored_all after next f =
        let whole = take n memory ++ c in
        let start : Filling whole memory memory (c ++ []) n = rw append-nil filling_from in
        let direct = filling_all whole memory (sets memory n c) (n + length c) (filling_some whole memory c memory [] n start) in
        let wrote = filling_all whole memory after next f in
        record { next = wrote.count ∙ sym direct.count; memory = wrote.memory ∙ sym direct.memory }
