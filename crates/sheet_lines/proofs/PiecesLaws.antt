-- The lines are written piece by piece, from the front of lent memory on.
use Rattle.std.specs.Prelude.{ℕ, ◌+◌, ◌≤◌, ◌≡◌, List, [], ◌∷◌, ◌++◌, length}
use Rattle.std.proofs.Common.{ap, ◌∙◌, subst, append_assoc}
use Rattle.lists.proofs.FillingLoops.{Filling, filling_none, filling_room, filling_stored, filling_all}
use Rattle.lists.specs.Memory.{Wrote}
use Rattle.lists.specs.Stored.{Stored}
use Rattle.sheet_decimal.specs.Numerals.{decimal}
use Rattle.sheet_path.specs.Labels.{spaced}
use Rattle.sheet_lines.specs.Lines.{line, reading_lines}

-- the pieces of the lines of a reading, one after the other
abbrev pub price_first : (price : ℕ) (word path : List ℕ) → List ℕ
price_first price word path = decimal price ++ (10 ∷ (word ++ (10 ∷ (spaced path ++ (10 ∷ [])))))

reading_pieces : (price : ℕ) (word path : List ℕ) → reading_lines price word path ≡ price_first price word path
reading_pieces price word path =
    append_assoc (decimal price) (10 ∷ []) (line word ++ line (spaced path))
    ∙ ap (λ l. decimal price ++ (10 ∷ l)) (append_assoc word (10 ∷ []) (line (spaced path)))

-- The lines are written from the front on: what is still to come.
module _ (whole before : List ℕ) where
  -- the next piece
  pub piece_room : (c present todo : List ℕ) (n : ℕ) → Filling whole before present (c ++ todo) n → n + length c ≤ length present
  piece_room = filling_room whole before

  pub piece_stored :
      {c present after todo : List ℕ} {n next : ℕ} → Filling whole before present (c ++ todo) n → Stored c n present after next
      → Filling whole before after todo next
  piece_stored f s = filling_stored whole before _ _ _ _ _ _ f s

  -- nothing is to come, and the memory is what was lent
  pub all_wrote : {present final : List ℕ} {n : ℕ} → Filling whole before present [] n → final ≡ present → Wrote whole before final n
  all_wrote {present} {final} {n} f e = rw e (filling_all whole before present n f)

pub reading_none :
    (price : ℕ) (word path before : List ℕ) → length (reading_lines price word path) ≤ length before
    → Filling (reading_lines price word path) before before (price_first price word path) 0
reading_none price word path before room =
    subst (λ t. Filling (reading_lines price word path) before before t 0) (reading_pieces price word path)
    (filling_none (reading_lines price word path) before room)
