-- What is written from the front on, and how long the printed lines can be.
use Rattle.std.specs.Prelude.{ℕ, ◌+◌, ◌<◌, ◌≤◌, ◌≡◌, List, [], ◌∷◌, ◌++◌, length}
use Rattle.std.proofs.Common.{append-nil, arith, length-append}
use Rattle.lists.specs.Each.{Each}
use Rattle.lists.proofs.FillingLoops.{filling_none, filling_stored, filling_all}
use Rattle.lists.specs.Memory.{Wrote}
use Rattle.lists.specs.Stored.{Stored}
use Rattle.refusal.specs.declared.Refusal.{Refusal}
use Rattle.refusal.specs.Number.{number_of}
use Rattle.refusal.proofs.NumberLaws.{number_between}
use Rattle.sheet_decimal.specs.Numerals.{decimal}
use Rattle.sheet_decimal.specs.NumeralsLaws.{decimal_short}
use Rattle.sheet_path.specs.Labels.{spaced}
use Rattle.sheet_path.specs.Loops.{spaced_short}
use Rattle.sheet_lines.specs.Lines.{line, reading_lines, refusal_line}

-- what is stored from the front on
pub stored_wrote : (whole before after : List ℕ) (r : ℕ) → length whole ≤ length before → Stored whole 0 before after r → Wrote whole before after r
stored_wrote whole before after r room s =
    filling_all whole before after r (filling_stored whole before whole before after [] 0 r (rw append-nil (filling_none whole before room)) s)

-- How long the lines can be.

length_line : (b : List ℕ) → length (line b) ≡ length b + 1
length_line b = length-append b (10 ∷ [])

-- a price of at most 9 digits, a word of at most 255 characters, at most 255 labels of at most 2 digits
pub reading_short :
    (price : ℕ) (word path : List ℕ) → price < 1000000000 → length word ≤ 255 → length path ≤ 255 → Each (λ x. x < 100) path
    → length (reading_lines price word path) ≤ 1031
reading_short price word path a b c h =
    let p = decimal_short 8 price (omega arith) in
    let q = spaced_short path h in
    let l = length_line (decimal price) in
    let m = length_line word in
    let n = length_line (spaced path) in
    omega (arith, length-append (line (decimal price)) (line word ++ line (spaced path)), length-append (line word) (line (spaced path)))

-- a number of at most 2 digits
pub refusal_short : (n : Refusal) → length (refusal_line (number_of n)) ≤ 11
refusal_short n = let p = decimal_short 1 (number_of n) (number_between n).1 in let l = length_line (decimal (number_of n)) in omega arith
