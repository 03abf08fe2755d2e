-- The checks of Decode, in their order (document 01, "What is turned away", refusals 11 to 15).
use Rattle.std.specs.Prelude.{ℕ, ◌+◌, ◌*◌, Bool, not, ◌||◌, List, [], ◌∷◌, length, leb, ltb, eqb}
use Rattle.lists.specs.Each.{all}
use Rattle.refusal.specs.declared.Refusal.TheVariants.{BadForm, Matrix as MatrixRefusal, Cost, OutputMemory, Work}
use Rattle.refusal.specs.Verdict.{Check, check}
use Rattle.automaton.specs.Form.{valid_form, letters_of, alphabet_of}
use Rattle.matrix.specs.Matrix.{Matrix, BARRED}

-- the lengths of the lent lists
pub record Rooms : Type 0 where
  pub path : ℕ
  pub word : ℕ
  pub work : ℕ

-- work words for t columns and l letters
abbrev pub needed : (t l : ℕ) → ℕ
needed t l = (t + 1) * (2 * l + 1)

-- T over 255, a width other than K + 1, or a list of another length than T × (K + 1)
abbrev pub matrix_fault : ℕ → Matrix → Bool
matrix_fault k M = ltb 255 M.count || (not (eqb M.width (k + 1)) || not (eqb (length M.costs) (M.count * M.width)))

-- the cost is at most 1,000,000, or it is that of a barred label
abbrev pub passes : ℕ → Bool
passes c = leb c 1000000 || eqb c BARRED

-- refusals 12 to 15, for a form of l letters over k characters
abbrev pub matrix_checks : (k l : ℕ) → Matrix → Rooms → List Check
matrix_checks k l M rooms =
    check (matrix_fault k M) MatrixRefusal
    ∷ (check (not (all passes M.costs)) Cost
    ∷ (check (ltb rooms.path M.count || ltb rooms.word M.count) OutputMemory
    ∷ (check (ltb rooms.work (needed M.count l)) Work ∷ [])))

abbrev pub decode_checks : List ℕ → Matrix → Rooms → List Check
decode_checks f M rooms = check (not (valid_form f)) BadForm ∷ matrix_checks (alphabet_of f) (letters_of f) M rooms
