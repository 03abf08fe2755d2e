-- The numbers of a field byte by byte, as the loop reads them, and their list cut to the room there is.
use Rattle.std.specs.Prelude.{◌≡◌, Bool, true, false, cond, ℕ, zero, suc, ◌+◌, ◌-◌, ◌<◌, ◌≤◌, take, drop, set, eqb}
use Rattle.std.proofs.Math.Path.{refl}
use Rattle.std.proofs.Common.{sym, ap, ◌∙◌, subst, arith, length-take, eq-eqb, ne_eqb}
use mathlib.Core.List.{List, [], ◌∷◌, ◌++◌, map}
use Rattle.std.proofs.Math.ListN.{length, get_or}
use Rattle.std.proofs.Math.Seq.{take-nil}
use Rattle.lists.proofs.EachLaws.{drop_here, drop_all}
use Rattle.lists.proofs.FillingLoops.{Filling, filling_none, filling_stored, filling_length, filling_all}
use Rattle.lists.specs.Memory.{written, Wrote}
use Rattle.lists.specs.Stored.{Stored}
use Rattle.text_lines.specs.Lines.{pieces, onto}
use Rattle.vectors_fields.specs.Fields.{more, value, numbers_of, ended, onward}

-- the numbers that are still to come, where v is the number so far
unfoldable pub coming : Bool → ℕ → List ℕ → List ℕ
coming h v [] = v ∷ []
coming h v (b ∷ s) = ended b v ++ coming h (onward h v b) s

-- the values of pieces, where the first piece continues the number v
unfoldable beyond : Bool → ℕ → List (List ℕ) → List ℕ
beyond h v [] = []
beyond h v (p ∷ ps) = value h v p ∷ map (value h 0) ps

beyond_none : (h : Bool) (ps : List (List ℕ)) → beyond h 0 ps ≡ map (value h 0) ps
unfolding beyond
beyond_none h [] = refl
beyond_none h (p ∷ ps) = refl

-- there is a first piece
record Some (s : List ℕ) : Type 0 where
  first : List ℕ
  others : List (List ℕ)
  is : pieces 32 s ≡ first ∷ others

some_piece : (s : List ℕ) → Some s
unfolding pieces onto
some_piece [] = record { first = []; others = []; is = refl }
some_piece (b ∷ s) = by (eqb b 32) refl (some_piece s)
  where
    by : (t : Bool) → eqb b 32 ≡ t → Some s → Some (b ∷ s)
    by true e o = record { first = []; others = pieces 32 s; is = rw e }
    by false e o = record { first = b ∷ o.first; others = o.others; is = rw (e, o.is) }

coming_pieces : (h : Bool) (v : ℕ) (s : List ℕ) → coming h v s ≡ beyond h v (pieces 32 s)
unfolding coming beyond pieces onto value
coming_pieces h v [] = refl
coming_pieces h v (b ∷ s) = by (eqb b 32) (coming_pieces h 0 s) (coming_pieces h (more h v b) s) (some_piece s)
  where
    by :
        (t : Bool) → coming h 0 s ≡ beyond h 0 (pieces 32 s) → coming h (more h v b) s ≡ beyond h (more h v b) (pieces 32 s) → Some s
        → cond t (v ∷ []) [] ++ coming h (cond t 0 (more h v b)) s ≡ beyond h v (cond t ([] ∷ pieces 32 s) (onto b (pieces 32 s)))
    by true f g o = ap (λ l. v ∷ l) (f ∙ beyond_none h (pieces 32 s))
    by false f g o = g ∙ rw o.is

-- all numbers are to come where the field begins
coming_all : (h : Bool) (s : List ℕ) → 0 < length s → numbers_of h s ≡ coming h 0 s
unfolding numbers_of
coming_all h [] l = absurd (omega arith)
coming_all h (b ∷ s) l = sym (coming_pieces h 0 (b ∷ s) ∙ beyond_none h (pieces 32 (b ∷ s)))

module _ {A : Type 0} where
  -- a list of two parts, cut to the room there is
  take_both : (k : ℕ) (a t : List A) → take k (a ++ t) ≡ take k a ++ take (k - length (take k a)) t
  take_both zero [] t = refl
  take_both (suc k) [] t = let z : suc k ≡ suc k - 0 = omega arith in ap (λ n. take n t) z
  take_both zero (x ∷ a) t = refl
  take_both (suc k) (x ∷ a) t =
      let z : k - length (take k a) ≡ suc k - suc (length (take k a)) = omega arith in
      ap (λ l. x ∷ l) (take_both k a t) ∙ ap (λ n. x ∷ (take k a ++ take n t)) z

-- what `push` does: the number is not at its end; there is no room; it is stored
module _ (list : List ℕ) (n v b : ℕ) where
  abbrev Pushed : List ℕ → ℕ → Type 0
  Pushed after r = Stored (take (length list - n) (ended b v)) n list after r

  pub pushed_not : (b ≡ 32 → ⊥) → Pushed list n
  pushed_not e = rw (ne_eqb b 32 e, take-nil) (record { next = omega arith; memory = refl })

  pub pushed_full : n ≡ length list → Pushed list n
  pushed_full e =
      let k : length list - n ≡ 0 = omega arith in
      rw k (record { next = omega arith; memory = refl })

  pub pushed_one : b ≡ 32 → n < length list → Pushed (set list n v) (n + 1)
  pushed_one e l =
      let m : length list - n ≡ suc (length list - (n + 1)) = omega arith in
      let k : take (length list - n) (ended b v) ≡ v ∷ [] = rw (eq-eqb b 32 e, m) (ap (λ t. v ∷ t) (take-nil (length list - (n + 1)))) in
      rw k (record { next = refl; memory = refl })

-- The loop that reads the numbers of a field into lent memory.
module _ (h : Bool) (field memory : List ℕ) where
  -- the numbers for which there is room
  abbrev pub fitting : List ℕ
  fitting = take (length memory) (numbers_of h field)

  -- n numbers are written, and those of t are still to come
  abbrev Left : List ℕ → List ℕ → ℕ → Type 0
  Left present t n = Filling fitting memory present (take (length memory - n) t) n

  -- at byte i of the field, where v is the number so far
  abbrev pub Read : List ℕ → ℕ → ℕ → ℕ → Type 0
  Read present i n v = Left present (coming h v (drop i field)) n

  pub read_none : 0 < length field → Read memory 0 0 0
  read_none l =
      let k : length memory ≡ length memory - 0 = omega arith in
      let todo : fitting ≡ take (length memory - 0) (coming h 0 field) =
      ap (take (length memory)) (coming_all h field l) ∙ ap (λ n. take n (coming h 0 field)) k in
      let room : length fitting ≤ length memory = omega (arith, length-take (length memory) (numbers_of h field)) in
      subst (λ t. Filling fitting memory memory t 0) todo (filling_none fitting memory room)

  pub read_length : (present t : List ℕ) (n : ℕ) → Left present t n → length present ≡ length memory
  read_length present t n f = filling_length fitting memory present (take (length memory - n) t) n f

  pub read_within : (present t : List ℕ) (n : ℕ) → Left present t n → n ≤ length present
  read_within present t n f = let w = f.within in let r = f.room in let e = read_length present t n f in omega arith

  -- the byte b is read
  push_byte :
      (present after t : List ℕ) (n v b r : ℕ) → Left present (ended b v ++ t) n
      → Stored (take (length present - n) (ended b v)) n present after r → Left after t r
  push_byte present after t n v b r f s =
      let a = ended b v in
      let e = read_length present (a ++ t) n f in
      let c = take (length memory - n) a in
      let stored : Stored c n present after r = rw e at s in
      let next = stored.next in
      let k : length memory - n - length c ≡ length memory - r = omega arith in
      let parts = rw (take_both (length memory - n) a t) at f in
      rw k at (filling_stored fitting memory c present after (take (length memory - n - length c) t) n r parts stored)

  pub read_more :
      (present after : List ℕ) (i n v r : ℕ) → i < length field → Read present i n v
      → Stored (take (length present - n) (ended (get_or field i 0) v)) n present after r → Read after (i + 1) r (onward h v (get_or field i 0))
  unfolding coming
  read_more present after i n v r l f s =
      let b = get_or field i 0 in
      push_byte present after (coming h (onward h v b) (drop (i + 1) field)) n v b r (rw (drop_here 0 field i l) at f) s

  -- an empty field has no numbers
  pub read_empty : length field ≡ 0 → Wrote fitting memory memory 0
  unfolding numbers_of written
  read_empty e = by field e
    where
      by : (s : List ℕ) → length s ≡ 0 → Wrote (take (length memory) (numbers_of h s)) memory memory 0
      by [] e = rw take-nil (record { count = refl; memory = refl })
      by (b ∷ s) e = absurd (omega arith)

  pub read_last :
      (present after : List ℕ) (i n v r : ℕ) → length field ≤ i → Read present i n v
      → Stored (take (length present - n) (ended 32 v)) n present after r → Wrote fitting memory after r
  unfolding coming
  read_last present after i n v r l f s =
      filling_all fitting memory after r (rw (take-nil (length memory - r)) at (push_byte present after [] n v 32 r (rw (drop_all field i l) at f) s))

-- the one number for which there is room, and 0 if there is none
pub first_number : (l : List ℕ) → get_or (written (take 1 l) (0 ∷ [])) 0 0 ≡ get_or l 0 0
unfolding written
first_number [] = refl
first_number (x ∷ l) = refl
