-- Laws of the checks: which refusal each of them gives, and that an input passes them all exactly if it fits.
use Rattle.std.specs.Prelude.{ℕ, ◌+◌, ◌*◌, ◌<◌, ◌≤◌, ◌≡◌, true, false, not, ◌||◌, ◌↔◌, length, eqb, Ok, Err}
use Rattle.std.proofs.Common.{ap, ◌∙◌, mul-le-mul, arith}
use mathlib.Core.List.{List, [], ◌∷◌}
use Rattle.std.proofs.Math.Dec.{ltb}
use borrow.Author.Tests.{lt-ltb, le-ltb, ltb-false, ne_eqb, eq-eqb, eqb-true, not-false}
use Rattle.lists.proofs.OrderLaws.{or_neither}
use Rattle.lists.proofs.EachLaws.{all_each, each_all}
use Rattle.lists.specs.Each.{all}
use Rattle.refusal.specs.declared.Refusal.TheVariants.{Matrix as MatrixRefusal, Cost, OutputMemory, Work}
use Rattle.refusal.specs.Verdict.{Check, check, first_refusal}
use Rattle.refusal.proofs.VerdictLaws.{first_holds, first_fails, first_passed}
use Rattle.matrix.specs.Matrix.{Matrix}
use Rattle.matrix.specs.Paths.{Passing}
use Rattle.decode_checks.specs.Checks.{Rooms, needed, matrix_fault, passes, matrix_checks}
use Rattle.decode_checks.specs.Passing.{Fits}
use Rattle.decode_checks.proofs.PassesLaws.{passes_exactly}

module _ (k : ℕ) (M : Matrix) where
  pub fault_count : 255 < M.count → matrix_fault k M ≡ true
  fault_count h = rw (lt-ltb 255 M.count h)

  pub fault_width : M.count ≤ 255 → (M.width ≡ k + 1 → ⊥) → matrix_fault k M ≡ true
  fault_width h n = rw (le-ltb 255 M.count h, ne_eqb M.width (k + 1) n)

  pub fault_length : M.count ≤ 255 → M.width ≡ k + 1 → matrix_fault k M ≡ not (eqb (length M.costs) (M.count * M.width))
  fault_length h e = rw (le-ltb 255 M.count h, eq-eqb M.width (k + 1) e)

  pub sized : matrix_fault k M ≡ false → (M.count ≤ 255) × (M.width ≡ k + 1) × (length M.costs ≡ M.count * M.width)
  sized e =
      let long = eqb (length M.costs) (M.count * M.width) in
      let a = or_neither (ltb 255 M.count) (not (eqb M.width (k + 1)) || not long) e in
      let b = or_neither (not (eqb M.width (k + 1))) (not long) a.1 in (
        ltb-false 255 M.count a.0,
        eqb-true M.width (k + 1) (not-false (eqb M.width (k + 1)) b.0),
        eqb-true (length M.costs) (M.count * M.width) (not-false long b.1),
      )

-- the most work words are needed for 255 columns and 127 letters
pub needed_most : (t l : ℕ) → t ≤ 255 → l ≤ 127 → needed t l ≤ 65280
needed_most t l h g =
    let a : t + 1 ≤ 256 = omega arith in
    let b : 2 * l + 1 ≤ 255 = omega arith in
    let m : needed t l ≤ 256 * 255 = mul-le-mul a b in
    omega arith

module _ (k l : ℕ) (M : Matrix) (rooms : Rooms) where
  memory : List Check
  memory = check (ltb rooms.path M.count || ltb rooms.word M.count) OutputMemory ∷ (check (ltb rooms.work (needed M.count l)) Work ∷ [])

  pub refused_matrix : matrix_fault k M ≡ true → first_refusal (matrix_checks k l M rooms) ≡ Err MatrixRefusal
  unfolding memory
  refused_matrix e = first_holds (matrix_fault k M) MatrixRefusal (check (not (all passes M.costs)) Cost ∷ memory) e

  module _ (sized : matrix_fault k M ≡ false) where
    past_matrix : first_refusal (matrix_checks k l M rooms) ≡ first_refusal (check (not (all passes M.costs)) Cost ∷ memory)
    unfolding memory
    past_matrix = first_fails (matrix_fault k M) MatrixRefusal (check (not (all passes M.costs)) Cost ∷ memory) sized

    pub refused_cost : all passes M.costs ≡ false → first_refusal (matrix_checks k l M rooms) ≡ Err Cost
    refused_cost e = past_matrix ∙ first_holds (not (all passes M.costs)) Cost memory (ap not e)

    module _ (pass : all passes M.costs ≡ true) where
      past_costs : first_refusal (matrix_checks k l M rooms) ≡ first_refusal memory
      past_costs = past_matrix ∙ first_fails (not (all passes M.costs)) Cost memory (ap not pass)

      pub refused_path : rooms.path < M.count → first_refusal (matrix_checks k l M rooms) ≡ Err OutputMemory
      unfolding memory
      refused_path h = past_costs ∙ first_holds (ltb rooms.path M.count || ltb rooms.word M.count) OutputMemory (check (ltb rooms.work (needed M.count l)) Work ∷ []) (rw (lt-ltb rooms.path M.count h))

      pub refused_word : M.count ≤ rooms.path → rooms.word < M.count → first_refusal (matrix_checks k l M rooms) ≡ Err OutputMemory
      unfolding memory
      refused_word g h =
          past_costs
          ∙ first_holds (ltb rooms.path M.count || ltb rooms.word M.count) OutputMemory (check (ltb rooms.work (needed M.count l)) Work ∷ [])
          (rw (le-ltb rooms.path M.count g, lt-ltb rooms.word M.count h))

      module _ (path : M.count ≤ rooms.path) (word : M.count ≤ rooms.word) where
        past_memory : first_refusal (matrix_checks k l M rooms) ≡ first_refusal (check (ltb rooms.work (needed M.count l)) Work ∷ [])
        unfolding memory
        past_memory =
            past_costs
            ∙ first_fails (ltb rooms.path M.count || ltb rooms.word M.count) OutputMemory (check (ltb rooms.work (needed M.count l)) Work ∷ [])
            (rw (le-ltb rooms.path M.count path, le-ltb rooms.word M.count word))

        pub refused_work : rooms.work < needed M.count l → first_refusal (matrix_checks k l M rooms) ≡ Err Work
        refused_work h = past_memory ∙ first_holds (ltb rooms.work (needed M.count l)) Work [] (lt-ltb rooms.work (needed M.count l) h)

        pub all_passed : needed M.count l ≤ rooms.work → first_refusal (matrix_checks k l M rooms) ≡ Ok tt
        unfolding first_refusal
        all_passed h = past_memory ∙ first_fails (ltb rooms.work (needed M.count l)) Work [] (le-ltb rooms.work (needed M.count l) h)

  -- what passes the checks fits
  pub fits : first_refusal (matrix_checks k l M rooms) ≡ Ok tt → Fits k l M rooms
  unfolding memory
  fits e =
      let a = first_passed (matrix_fault k M) MatrixRefusal (check (not (all passes M.costs)) Cost ∷ memory) e in
      let b = first_passed (not (all passes M.costs)) Cost memory a.1 in
      let c = first_passed (ltb rooms.path M.count || ltb rooms.word M.count) OutputMemory (check (ltb rooms.work (needed M.count l)) Work ∷ []) b.1 in
      let d = first_passed (ltb rooms.work (needed M.count l)) Work [] c.1 in
      let size = sized k M a.0 in
      let room = or_neither (ltb rooms.path M.count) (ltb rooms.word M.count) c.0 in
      record {
        few = size.0;
        wide = size.1;
        full = size.2;
        pass = all_each passes Passing (λ c. (passes_exactly c).0) M.costs (not-false (all passes M.costs) b.0);
        path = ltb-false rooms.path M.count room.0;
        word = ltb-false rooms.word M.count room.1;
        work = ltb-false rooms.work (needed M.count l) d.0;
      }

  -- what fits passes them: refusals 12 to 15 turn nothing else away
  pub fits_exactly : (first_refusal (matrix_checks k l M rooms) ≡ Ok tt) ↔ Fits k l M rooms
  fits_exactly = (
    fits,
    λ f.
        let long = fault_length k M f.few f.wide ∙ ap not (eq-eqb (length M.costs) (M.count * M.width) f.full) in
        all_passed long (each_all passes Passing (λ c. (passes_exactly c).1) M.costs f.pass) f.path f.word f.work,
  )
