-- Laws: the row that is written has the costs to go of its column, if the row at `next` has those of the next column.
use Rattle.std.specs.Prelude.{ℕ, ◌+◌, ◌*◌, ◌-◌, ◌/◌, ◌<◌, ◌≤◌, min, ◌≡◌, ◌⊎◌, List, length, get_or, set}
use Rattle.std.proofs.Common.{sym, ap, ap₂, subst, ◌∙◌, inl, inr, arith, get_or-set_same, get_or-set_other}
use Rattle.lists.proofs.OrderLaws.{eq_or_ne}
use Rattle.lists.specs.Least.{Least}
use Rattle.lists.proofs.OutsideLaws.{outside_set, outside_then, outside_wider}
use Rattle.matrix.specs.Matrix.{Matrix, ColumnOf, cost}
use Rattle.automaton.specs.Form.{letters_of, alphabet_of, label_of, view}
use Rattle.automaton.specs.Valid.{Valid}
use Rattle.automaton.proofs.ValidLaws.{valid_proper}
use Rattle.trellis.specs.Impossible.{TOP, plus}
use Rattle.trellis.specs.CostToGo.{CostToGo}
use Rattle.trellis.specs.Extended.{extended}
use Rattle.trellis.proofs.ExtendedLaws.{AtLetter, at_letter}
use Rattle.trellis.specs.Cells.{ByArc}
use Rattle.trellis.proofs.CellsLaws.{blanks_cell, letter_cell}
use Rattle.trellis.specs.Table.{Row}
use Rattle.trellis_keys.specs.Keys.{KeysFilled}
use Rattle.trellis_offers.specs.Offers.{FAR, key_of, LeastKey, LeastOther}
use Rattle.trellis_offers.specs.OffersLaws.{least_price}
use Rattle.trellis_row.specs.Letters.{states, LettersFilled}
use Rattle.trellis_row.specs.Rows.{onward, BlanksCell, LetterCell, RowFilled}

-- if the row of the next column is at `next`, the row at `here` is that of column t
module _ {f : List ℕ} (valid : Valid f) {column before after : List ℕ} {here next : ℕ} (filled : RowFilled f column before after here next)
    (M : Matrix) (t n : ℕ) (costs : ColumnOf (alphabet_of f) M t column) (beyond : Row (view f) M before next (t + 1) n) where
  paid : (j : ℕ) → 1 ≤ j → j ≤ letters_of f → onward f column before next j ≡ plus (cost M t (label_of f j)) (get_or before (next + (2 * j - 1)) 0)
  paid j l h = ap (λ c. plus c (get_or before (next + (2 * j - 1)) 0)) (sym (costs (label_of f j) (valid.letter j l h).high))

  -- the price of a step into the blanks after letter i
  rests : (i : ℕ) → plus (cost M t 0) (get_or before (next + 2 * i) 0) ≡ plus (get_or column 0 0) (get_or before (next + 2 * i) 0)
  rests i = ap (λ c. plus c (get_or before (next + 2 * i) 0)) (costs 0 (omega arith))

  in_blanks : (i : ℕ) → i ≤ letters_of f → CostToGo (extended (view f)) M t (n + 1) (2 * i) (get_or after (here + 2 * i) 0)
  in_blanks i h =
      let c = filled.blanks i h in
      subst (CostToGo (extended (view f)) M t (n + 1) (2 * i)) (ap (λ r. min r c.all) (rests i) ∙ sym c.is)
      (blanks_cell (valid_proper f valid) M t n (λ s. get_or before (next + s) 0) (onward f column before next) beyond paid i c.all h c.along)

  on_letter : (i : ℕ) → 1 ≤ i → i ≤ letters_of f → CostToGo (extended (view f)) M t (n + 1) (2 * i - 1) (get_or after (here + (2 * i - 1)) 0)
  on_letter i low h =
      let c = filled.on i low h in
      subst (CostToGo (extended (view f)) M t (n + 1) (2 * i - 1)) (ap₂ (λ a b. min (min a b) c.other) (sym (paid i low h)) (rests i) ∙ sym c.is)
      (letter_cell (valid_proper f valid) M t n (λ s. get_or before (next + s) 0) (onward f column before next) beyond paid i c.other low h c.along)

  at_state : (s i : ℕ) → s ≤ 2 * letters_of f → AtLetter i s → CostToGo (extended (view f)) M t (n + 1) s (get_or after (here + s) 0)
  at_state s i h (inr e) = rw e (in_blanks i (omega arith))
  at_state s i h (inl e) = let q : s ≡ 2 * i - 1 = omega arith in rw q (on_letter i (omega arith) (omega arith))

  pub row_next : Row (view f) M after here t (n + 1)
  row_next s h = at_state s ((s + 1) / 2) h (at_letter s)

-- the lesser of two keys, and a price: if one key is at most FAR, holding the other and the price at TOP changes nothing
least_of_three : (k o r : ℕ) → o ≤ FAR → min (min k o / 256) r ≡ min (min (min TOP (k / 256)) (min TOP r)) (o / 256)
least_of_three k o r h =
    let divided : min k o / 256 ≡ min (k / 256) (o / 256) = omega arith in
    ap (λ n. min n r) divided ∙ held_two (k / 256) (o / 256) (omega arith)
  where
    held_two : (a b : ℕ) → b ≤ TOP → min (min a b) r ≡ min (min (min TOP a) (min TOP r)) b
    held_two a b low = omega arith

-- the states of the letters are written, and then state 0
module _ {f : List ℕ} (valid : Valid f) (column before : List ℕ) (here next : ℕ) (old-keys ks : List ℕ) (keys : KeysFilled f column before next old-keys ks)
    (work : List ℕ) (room : here < length work) (letters : LettersFilled f ks (get_or column 0 0) before work here next (letters_of f + 1)) where
  -- the price of a letter's key, held at TOP
  held : (j : ℕ) → 1 ≤ j → j ≤ letters_of f → onward f column before next j ≡ min TOP (key_of ks j / 256)
  held j l h = let e = keys.is j l (omega arith) in let x = (valid.letter j l h).high in let k = valid.head.alphabet_high in omega arith

  along : (i own m : ℕ) → LeastOther f ks i own m → Least TOP (ByArc (view f) (onward f column before next) i own) (m / 256)
  along = least_price f ks valid (onward f column before next) held

  pub row_filled :
      (m v : ℕ) → LeastKey f ks 0 m → v ≡ min (m / 256) (get_or column 0 0 + get_or before next 0) → RowFilled f column before (set work here v) here next
  row_filled m v first e =
      record {
        blanks = λ i h. blanks i h (eq_or_ne i 0);
        on = on;
        outside =
            outside_then (outside_wider here (here + states f) (omega arith) (omega arith) letters.outside)
            (outside_set here (here + states f) work here v (omega arith) (omega arith));
      }
    where
      other : (k : ℕ) → here < k → get_or (set work here v) k 0 ≡ get_or work k 0
      other k h = get_or-set_other work here k v 0 (λ q. omega arith)

      zero : get_or (set work here v) (here + 2 * 0) 0 ≡ min (plus (get_or column 0 0) (get_or before (next + 2 * 0) 0)) (m / 256)
      zero =
          let p : here + 2 * 0 ≡ here = omega arith in
          let q : next ≡ next + 2 * 0 = omega arith in
          let w = first.within in
          let s : min (m / 256) (get_or column 0 0 + get_or before next 0) ≡ min (plus (get_or column 0 0) (get_or before next 0)) (m / 256) = omega arith in
          ap (λ k. get_or (set work here v) k 0) p ∙ get_or-set_same work here v 0 room ∙ e ∙ s
          ∙ ap (λ k. min (plus (get_or column 0 0) (get_or before k 0)) (m / 256)) q

      blanks : (i : ℕ) → i ≤ letters_of f → (i ≡ 0) ⊎ (i ≡ 0 → ⊥) → BlanksCell f column before next i (get_or (set work here v) (here + 2 * i) 0)
      blanks i h (inl z) = rw z (record { all = m / 256; along = along 0 0 m first; is = zero })
      blanks i h (inr z) =
          let c = (letters.cells i (omega arith) (omega arith)).1 in
          let least = (letters.cells i (omega arith) (omega arith)).0 in
          let w = c.along_all.within in
          let s : min (least / 256) (get_or column 0 0 + get_or before (next + 2 * i) 0) ≡ min (plus (get_or column 0 0) (get_or before (next + 2 * i) 0)) (least / 256) = omega arith in
          record { all = least / 256; along = along i 0 least c.along_all; is = other (here + 2 * i) (omega arith) ∙ c.blanks_is ∙ s }

      on : (i : ℕ) → 1 ≤ i → i ≤ letters_of f → LetterCell f column before next i (get_or (set work here v) (here + (2 * i - 1)) 0)
      on i l h =
          let c = (letters.cells i l (omega arith)).1 in
          record {
            other = c.other / 256;
            along = along i (label_of f i) c.other c.along_other;
            is =
                other (here + (2 * i - 1)) (omega arith) ∙ c.on_is
                ∙ least_of_three (key_of ks i) c.other (get_or column 0 0 + get_or before (next + 2 * i) 0) c.along_other.within
                ∙ ap (λ x. min (min x (plus (get_or column 0 0) (get_or before (next + 2 * i) 0))) (c.other / 256)) (sym (held i l h));
          }
