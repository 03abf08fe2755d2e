-- Laws of the checks of Compare: an input passes them all exactly if it fits both forms; where K is the same, they are those of one form
-- with the greater number of letters.
use Rattle.std.specs.Prelude.{ℕ, ◌+◌, ◌*◌, ◌<◌, ◌≤◌, max, ◌≡◌, refl, Bool, true, ◌⊎◌, ◌↔◌, length, ltb, Ok, Err}
use Rattle.std.proofs.Common.{sym, ap₂, ◌∙◌, inl, inr, arith, le-ltb, ltb-false, eq-eqb}
use Rattle.std.proofs.Math.Path.{ap}
use Rattle.std.proofs.Math.Bool.{false, not, ◌||◌, or_self}
use mathlib.Core.List.{List, [], ◌∷◌}
use Rattle.std.proofs.lemmas.Bool.{not-false}
use Rattle.lists.proofs.OrderLaws.{lt_or_le, eq_or_ne, or_left, or_right, or_neither}
use Rattle.lists.proofs.EachLaws.{all_each, each_all}
use Rattle.lists.specs.Each.{all}
use Rattle.refusal.specs.declared.Refusal.TheVariants.{BadForm, Matrix as MatrixRefusal, Cost, OutputMemory, Work}
use Rattle.refusal.specs.Verdict.{Check, check, first_refusal}
use Rattle.refusal.proofs.VerdictLaws.{first_holds, first_fails, first_passed, first_same}
use Rattle.automaton.specs.Form.{valid_form, letters_of, alphabet_of}
use Rattle.matrix.specs.Matrix.{Matrix}
use Rattle.matrix.specs.Paths.{Passing}
use Rattle.decode_checks.specs.Checks.{Rooms, matrix_fault, passes, matrix_checks}
use Rattle.decode_checks.proofs.PassesLaws.{passes_exactly}
use Rattle.decode_checks.proofs.PassingLaws.{fault_count, fault_width, fault_length, sized}
use Rattle.comparison.specs.Checks.{larger_need, compare_checks}
use Rattle.comparison.specs.Passing.{FitsBoth}

-- no path and no word memory is lent: as if each were as long as the matrix
abbrev pub work_alone : Matrix → (room : ℕ) → Rooms
work_alone M room = record { path = M.count; word = M.count; work = room }

module _ (f g : List ℕ) (M : Matrix) (room : ℕ) where
  -- The tests of the four checks, and the checks after each.

  abbrev bad : Bool
  bad = not (valid_form f) || not (valid_form g)

  abbrev fault : Bool
  fault = matrix_fault (alphabet_of f) M || matrix_fault (alphabet_of g) M

  abbrev dear : Bool
  dear = not (all passes M.costs)

  abbrev short : Bool
  short = ltb room (larger_need f g M)

  abbrev past_costs : List Check
  past_costs = check short Work ∷ []

  abbrev past_matrix : List Check
  past_matrix = check dear Cost ∷ past_costs

  abbrev past_forms : List Check
  past_forms = check fault MatrixRefusal ∷ past_matrix

  fits_both : first_refusal (compare_checks f g M room) ≡ Ok tt → FitsBoth f g M room
  fits_both e =
      let a = first_passed bad BadForm past_forms e in
      let b = first_passed fault MatrixRefusal past_matrix a.1 in
      let c = first_passed dear Cost past_costs b.1 in
      let d = first_passed short Work [] c.1 in
      let valid = or_neither (not (valid_form f)) (not (valid_form g)) a.0 in
      let size = or_neither (matrix_fault (alphabet_of f) M) (matrix_fault (alphabet_of g) M) b.0 in
      let one = sized (alphabet_of f) M size.0 in
      record {
        first = not-false (valid_form f) valid.0;
        second = not-false (valid_form g) valid.1;
        few = one.0;
        wide_first = one.1;
        wide_second = (sized (alphabet_of g) M size.1).1;
        full = one.2;
        pass = all_each passes Passing (λ c. (passes_exactly c).0) M.costs (not-false (all passes M.costs) c.0);
        work = ltb-false room (larger_need f g M) d.0;
      }

  both_pass : FitsBoth f g M room → first_refusal (compare_checks f g M room) ≡ Ok tt
  unfolding first_refusal
  both_pass h =
      let none : (k : ℕ) → M.width ≡ k + 1 → matrix_fault k M ≡ false =
      λ k e. fault_length k M h.few e ∙ ap not (eq-eqb (length M.costs) (M.count * M.width) h.full) in
      first_fails bad BadForm past_forms (ap₂ (λ a b. not a || not b) h.first h.second)
      ∙ first_fails fault MatrixRefusal past_matrix (ap₂ ◌||◌ (none (alphabet_of f) h.wide_first) (none (alphabet_of g) h.wide_second))
      ∙ first_fails dear Cost past_costs (ap not (each_all passes Passing (λ c. (passes_exactly c).1) M.costs h.pass))
      ∙ first_fails short Work [] (le-ltb room (larger_need f g M) h.work)

  -- refusals 11, 12, 13 and 15 turn away exactly what does not fit both forms
  pub fits_both_exactly : (first_refusal (compare_checks f g M room) ≡ Ok tt) ↔ FitsBoth f g M room
  fits_both_exactly = (fits_both, both_pass)

  pub bad_first : valid_form f ≡ false → first_refusal (compare_checks f g M room) ≡ Err BadForm
  bad_first e = first_holds bad BadForm past_forms (or_left (not (valid_form f)) (not (valid_form g)) (ap not e))

  pub bad_second : valid_form g ≡ false → first_refusal (compare_checks f g M room) ≡ Err BadForm
  bad_second e = first_holds bad BadForm past_forms (or_right (not (valid_form f)) (not (valid_form g)) (ap not e))

  module _ (one : valid_form f ≡ true) (two : valid_form g ≡ true) where
    valid_both : first_refusal (compare_checks f g M room) ≡ first_refusal past_forms
    valid_both = first_fails bad BadForm past_forms (ap₂ (λ a b. not a || not b) one two)

    -- forms of unequal K: 12, whatever the matrix is
    pub unequal_alphabets : (alphabet_of g ≡ alphabet_of f → ⊥) → first_refusal (compare_checks f g M room) ≡ Err MatrixRefusal
    unequal_alphabets d = valid_both ∙ first_holds fault MatrixRefusal past_matrix (by (lt_or_le 255 M.count) (eq_or_ne M.width (alphabet_of f + 1)))
      where
        first_too : matrix_fault (alphabet_of f) M ≡ true → fault ≡ true
        first_too = or_left (matrix_fault (alphabet_of f) M) (matrix_fault (alphabet_of g) M)

        by : (255 < M.count) ⊎ (M.count ≤ 255) → (M.width ≡ alphabet_of f + 1) ⊎ (M.width ≡ alphabet_of f + 1 → ⊥) → fault ≡ true
        by (inl h) w = first_too (fault_count (alphabet_of f) M h)
        by (inr h) (inr n) = first_too (fault_width (alphabet_of f) M h n)
        by (inr h) (inl e) =
            or_right (matrix_fault (alphabet_of f) M) (matrix_fault (alphabet_of g) M)
            (fault_width (alphabet_of g) M h (λ w. d (omega arith)))

    -- refusal 14 for memory as long as the matrix, and the checks from it on

    abbrev short_output : Bool
    short_output = ltb M.count M.count || ltb M.count M.count

    abbrev past_output : List Check
    past_output = check short_output OutputMemory ∷ past_costs

    -- forms of equal K: the checks of one form, with the greater number of letters
    pub equal_alphabets :
        alphabet_of g ≡ alphabet_of f
        → first_refusal (compare_checks f g M room) ≡ first_refusal (matrix_checks (alphabet_of f) (max (letters_of f) (letters_of g)) M (work_alone M room))
    equal_alphabets e =
        valid_both
        ∙ first_same fault (matrix_fault (alphabet_of f) M) MatrixRefusal past_matrix (check dear Cost ∷ past_output)
        (ap (λ k. matrix_fault (alphabet_of f) M || matrix_fault k M) e ∙ or_self (matrix_fault (alphabet_of f) M))
        (first_same dear dear Cost past_costs past_output refl (sym (first_fails short_output OutputMemory past_costs (ap (λ t. t || t) (le-ltb M.count M.count (omega arith))))))
