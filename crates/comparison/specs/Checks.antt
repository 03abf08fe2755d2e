-- The checks of Compare, in their order (document 02, T-04): refusals 11, 12, 13 and 15, for two forms. There is no 14: neither path nor
-- word memory is lent.
use Rattle.std.specs.Prelude.{ℕ, max, not, ◌||◌, List, [], ◌∷◌, ltb}
use Rattle.lists.specs.Each.{all}
use Rattle.refusal.specs.declared.Refusal.TheVariants.{BadForm, Matrix as MatrixRefusal, Cost, Work}
use Rattle.refusal.specs.Verdict.{Check, check}
use Rattle.automaton.specs.Form.{valid_form, letters_of, alphabet_of}
use Rattle.matrix.specs.Matrix.{Matrix}
use Rattle.decode_checks.specs.Checks.{needed, matrix_fault, passes}

-- the work words that the larger form needs, which is the one with more letters
abbrev pub larger_need : (f g : List ℕ) → Matrix → ℕ
larger_need f g M = needed M.count (max (letters_of f) (letters_of g))

-- `room` is the length of the work memory
abbrev pub compare_checks : (f g : List ℕ) → Matrix → (room : ℕ) → List Check
compare_checks f g M room =
    check (not (valid_form f) || not (valid_form g)) BadForm
    ∷ (check (matrix_fault (alphabet_of f) M || matrix_fault (alphabet_of g) M) MatrixRefusal
    ∷ (check (not (all passes M.costs)) Cost
    ∷ (check (ltb room (larger_need f g M)) Work ∷ [])))
