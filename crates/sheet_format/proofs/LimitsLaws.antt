-- The limits of a sheet, proved on examples of every size: at most 65,535 bytes, and at most 16,384 costs.
-- For the reader: nothing uses it.
use Rattle.std.specs.Prelude.{◌≡◌, refl, Bool, true, false, ℕ, zero, suc, ◌+◌, ◌*◌, ◌≤◌, length, replicate, eqb, leb, ltb}
use Rattle.std.proofs.Common.{ap, ◌∙◌, ⊎_elim, arith, length-append, le-leb, lt-ltb, le-ltb}
use Rattle.std.proofs.Math.Option.{Option, some, none}
use mathlib.Core.List.{List, [], ◌∷◌, ◌++◌, flatten}
use Rattle.std.proofs.lemmas.List.{length-replicate}
use Rattle.std.proofs.lemmas.Bool.{lt-leb}
use Rattle.lists.specs.Each.{all}
use Rattle.lists.proofs.OrderLaws.{lt_or_le}
use Rattle.lists.specs.Cases.{provided}
use Rattle.text_lines.specs.Lines.{onto, pieces, both, lines_of, Free}
use Rattle.sheet_format.specs.Sheet.{every, numeral_of, cost_of, column_of, Sheet, equal_columns, fitting, laid, sheet_from, sheet_of}
use Rattle.text_lines.proofs.LinesLaws.{lines_end, lines_none}
use Rattle.sheet_format.proofs.ColumnLinesLaws.{columns_in_end, columns_in_line}
use Rattle.sheet_format.specs.ColumnLines.{columns_of, columns_in}

-- the text is no sheet
abbrev none_of : Option Sheet → Bool
none_of none = true
none_of (some S) = false

-- none exactly if m is over k
provided_most : (m k : ℕ) (S : Sheet) → none_of (provided (leb m k) (some S)) ≡ ltb k m
unfolding provided
provided_most m k S = ⊎_elim (λ h. rw (lt-leb m k h, lt-ltb k m h)) (λ h. rw (le-leb m k h, le-ltb k m h)) (lt_or_le k m)

-- an empty alphabet line, and an expression line of n bytes
long : ℕ → List ℕ
long n = 10 ∷ (replicate n 97 ++ (10 ∷ []))

long_size : (n : ℕ) → length (long n) ≡ n + 2
unfolding long
long_size n = let a = length-append {A = ℕ} (replicate n 97) (10 ∷ []) in let b = length-replicate {A = ℕ} n 97 in omega arith

long_lines : (n : ℕ) → lines_of (long n) ≡ some ([] ∷ (replicate n 97 ∷ []))
unfolding long both
long_lines n =
    lines_end [] (replicate n 97 ++ (10 ∷ [])) tt
    ∙ ap (both (some [])) (lines_end (replicate n 97) [] (free n) ∙ ap (both (some (replicate n 97))) lines_none)
  where
    free : (n : ℕ) → Free 10 (replicate n 97)
    free zero = tt
    free (suc n) = (λ e. omega arith, free n)

-- no sheet exactly if its n + 2 bytes are over 65,535
limit_of_bytes : (n : ℕ) → none_of (sheet_of (long n)) ≡ ltb 65535 (n + 2)
unfolding sheet_of sheet_from laid every provided flatten
limit_of_bytes n =
    ap (λ m. none_of (provided (leb m 65535) (sheet_from (lines_of (long n))))) (long_size n)
    ∙ ap (λ o. none_of (provided (leb (n + 2) 65535) (sheet_from o))) (long_lines n)
    ∙ provided_most (n + 2) 65535 (record { alphabet = []; text = replicate n 97; columns = [] })

-- n columns of one cost 0
many : ℕ → List ℕ
many zero = []
many (suc n) = 48 ∷ (10 ∷ many n)

-- those columns
abbrev zeros : ℕ → List (List ℕ)
zeros n = replicate n (0 ∷ [])

many_size : (n : ℕ) → length (many n) ≡ 2 * n
unfolding many
many_size zero = refl
many_size (suc n) = let h = many_size n in omega arith

nought : column_of (48 ∷ []) ≡ some (0 ∷ [])
unfolding column_of every both pieces onto cost_of numeral_of provided
nought = refl

many_columns : (n : ℕ) → columns_in (many n) ≡ some (zeros n)
unfolding many both
many_columns zero = columns_in_end
many_columns (suc n) =
    columns_in_line (48 ∷ []) (many n) (λ e. omega arith, tt) ∙ ap (λ c. both c (columns_in (many n))) nought ∙ ap (both (some (0 ∷ []))) (many_columns n)

many_fit : (n : ℕ) → fitting (zeros n) ≡ leb n 16384
unfolding flatten
many_fit n = rw (equal n, count n)
  where
    one : (n : ℕ) → all (λ d. eqb (length d) 1) (zeros n) ≡ true
    one zero = refl
    one (suc n) = one n

    equal : (n : ℕ) → equal_columns (zeros n) ≡ true
    equal zero = refl
    equal (suc n) = one n

    count : (n : ℕ) → length (flatten (zeros n)) ≡ n
    count zero = refl
    count (suc n) = ap suc (count n)

-- no sheet exactly if its n costs are over 16,384; 32,766 columns are 65,534 bytes
limit_of_costs : (n : ℕ) → n ≤ 32766 → none_of (sheet_of (10 ∷ (10 ∷ many n))) ≡ ltb 16384 n
unfolding sheet_of sheet_from laid both columns_of provided
limit_of_costs n l =
    ap (λ t. none_of (provided t (sheet_from (lines_of (10 ∷ (10 ∷ many n))))))
    (le-leb (length (10 ∷ (10 ∷ many n))) 65535 (let h = many_size n in omega arith))
    ∙ ap (λ o. none_of (sheet_from o)) (lines_end [] (10 ∷ many n) tt ∙ ap (both (some [])) (lines_end [] (many n) tt))
    ∙ by (lines_of (many n))
    ∙ ap (λ o. none_of (laid [] [] o)) (many_columns n)
    ∙ ap (λ t. none_of (provided t (some (record { alphabet = []; text = []; columns = zeros n })))) (many_fit n)
    ∙ provided_most n 16384 (record { alphabet = []; text = []; columns = zeros n })
  where
    by : (o : Option (List (List ℕ))) → none_of (sheet_from (both (some []) (both (some []) o))) ≡ none_of (laid [] [] (columns_of o))
    by none = refl
    by (some ls) = refl
