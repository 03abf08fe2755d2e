-- The outcome of a small matrix, found by trying every list of labels. Where a test decides the words, this computes the outcome.
use Rattle.std.specs.Prelude.{ℕ, zero, suc, ◌+◌, ◌<◌, ◌≡◌, Bool, true, false, ◌&&◌, ◌⊎◌, length, leb, eqb}
use Rattle.std.proofs.Math.Path.{refl}
use Rattle.std.proofs.Common.{sym, ap, ◌∙◌, inl, inr, ⊎_elim, arith}
use Rattle.std.proofs.Math.Option.{Option, some, none}
use mathlib.Core.List.{List, [], ◌∷◌}
use borrow.Author.Tests.{leb-true, le-leb}
use Rattle.lists.proofs.OrderLaws.{eq_or_ne, and_left, and_right, and_both}
use Rattle.lists.specs.Each.{Each}
use Rattle.ctc.specs.Collapse.{merge, without_blanks, collapse}
use Rattle.matrix.specs.Matrix.{Matrix, matrix, cost, price}
use Rattle.matrix.specs.Paths.{PathFrom}
use Rattle.matrix.proofs.PathsLaws.{path_labels}
use Rattle.outcome.specs.Outcome.{OutcomeOf, Outcome}
use Rattle.outcome.proofs.OutcomeLaws.{outcome_of_same}
use Rattle.outcome.proofs.ChoiceLaws.{not_after, preferred, better}
use Rattle.outcome.proofs.UnionLaws.{outcome_either}

abbrev pub prefixed : ℕ → Option (List ℕ) → Option (List ℕ)
prefixed x none = none
prefixed x (some p) = some (x ∷ p)

abbrev pub given : Bool → Option (List ℕ)
given true = some []
given false = none

-- the best of those that begin with a label below k, where `rest x` is the best after label x
unfoldable pub over : (List ℕ → ℕ) → (ℕ → Option (List ℕ)) → ℕ → Option (List ℕ)
over cost rest zero = none
over cost rest (suc x) = better cost (over cost rest x) (prefixed x (rest x))

-- the best of all lists of n labels below `width` that pass the test
unfoldable pub exhaustive : (List ℕ → ℕ) → (List ℕ → Bool) → ℕ → ℕ → Option (List ℕ)
exhaustive cost test width zero = given (test [])
exhaustive cost test width (suc n) = over cost (λ x. exhaustive (λ p. cost (x ∷ p)) (λ p. test (x ∷ p)) width n) width

-- a list of n labels that passes
pub record Passes (test : List ℕ → Bool) (width n : ℕ) (p : List ℕ) : Type 0 where
  pub size : length p ≡ n
  pub labels : Each (λ x. x < width) p
  pub passes : test p ≡ true

-- x, and after it a list that qualifies
pub record Beyond (x : ℕ) (P : List ℕ → Type 0) (p : List ℕ) : Type 0 where
  pub rest : List ℕ
  pub is : p ≡ x ∷ rest
  pub qualifies : P rest

outcome_prefixed :
    (cost : List ℕ → ℕ) (x : ℕ) (P : List ℕ → Type 0) (o : Option (List ℕ)) → OutcomeOf P (λ p. cost (x ∷ p)) o
    → OutcomeOf (Beyond x P) cost (prefixed x o)
outcome_prefixed cost x P none h = λ p b. h b.rest b.qualifies
outcome_prefixed cost x P (some p) h =
    record {
      qualifies = record { rest = p; is = refl; qualifies = h.qualifies };
      least = λ a b. rw b.is (h.least b.rest b.qualifies);
      first = λ a b e. rw b.is (inr (refl, h.first b.rest b.qualifies (sym (ap cost b.is) ∙ e)));
    }

-- it begins with some label below k
pub record Begins (k : ℕ) (P : ℕ → List ℕ → Type 0) (p : List ℕ) : Type 0 where
  pub label : ℕ
  pub below : label < k
  pub beyond : Beyond label (P label) p

outcome_over :
    (cost : List ℕ → ℕ) (P : ℕ → List ℕ → Type 0) (rest : ℕ → Option (List ℕ)) → ((x : ℕ) → OutcomeOf (P x) (λ p. cost (x ∷ p)) (rest x))
    → (k : ℕ) → OutcomeOf (Begins k P) cost (over cost rest k)
unfolding over
outcome_over cost P rest h zero = λ p b. let l = b.below in omega arith
outcome_over cost P rest h (suc k) =
    outcome_of_same cost to from (better cost (over cost rest k) (prefixed k (rest k)))
    (outcome_either cost (Begins k P) (Beyond k (P k)) (over cost rest k) (prefixed k (rest k)) (outcome_over cost P rest h k)
    (outcome_prefixed cost k (P k) (rest k) (h k)))
  where
    to : (p : List ℕ) → Begins k P p ⊎ Beyond k (P k) p → Begins (suc k) P p
    to p (inl b) = let l = b.below in record { label = b.label; below = omega arith; beyond = b.beyond }
    to p (inr b) = record { label = k; below = omega arith; beyond = b }

    from : (p : List ℕ) → Begins (suc k) P p → Begins k P p ⊎ Beyond k (P k) p
    from p b =
        ⊎_elim (λ e. inr (rw e at b.beyond))
        (λ n. let l = b.below in inl (record { label = b.label; below = omega arith; beyond = b.beyond })) (eq_or_ne b.label k)

pub exhaustive_outcome :
    (cost : List ℕ → ℕ) (test : List ℕ → Bool) (width n : ℕ) → OutcomeOf (Passes test width n) cost (exhaustive cost test width n)
unfolding exhaustive
exhaustive_outcome cost test width zero = by (test []) refl
  where
    empty : (p : List ℕ) → length p ≡ 0 → p ≡ []
    empty [] e = refl
    empty (x ∷ p) e = absurd (omega arith)

    by : (t : Bool) → test [] ≡ t → OutcomeOf (Passes test width 0) cost (given t)
    by true e =
        record {
          qualifies = record { size = refl; labels = tt; passes = e };
          least = λ a h. rw (empty a h.size) (omega arith);
          first = λ a h q. tt;
        }
    by false e = λ p h. let q : test [] ≡ true = rw (empty p h.size) at h.passes in let z : ◌≡◌ {A = ℕ} 0 1 = cc in omega arith
exhaustive_outcome cost test width (suc n) =
    outcome_of_same cost to from (over cost (λ x. exhaustive (λ p. cost (x ∷ p)) (λ p. test (x ∷ p)) width n) width)
    (outcome_over cost (λ x. Passes (λ p. test (x ∷ p)) width n) (λ x. exhaustive (λ p. cost (x ∷ p)) (λ p. test (x ∷ p)) width n)
    (λ x. exhaustive_outcome (λ p. cost (x ∷ p)) (λ p. test (x ∷ p)) width n) width)
  where
    to : (p : List ℕ) → Begins width (λ x. Passes (λ p. test (x ∷ p)) width n) p → Passes test width (suc n) p
    to p b =
        let q = b.beyond.qualifies in
        rw b.beyond.is (record { size = ap suc q.size; labels = (b.below, q.labels); passes = q.passes })

    from : (p : List ℕ) → Passes test width (suc n) p → Begins width (λ x. Passes (λ p. test (x ∷ p)) width n) p
    from [] h = absurd (let e = h.size in omega arith)
    from (x ∷ p) h =
        record {
          label = x;
          below = h.labels.0;
          beyond =
              record {
                rest = p;
                is = refl;
                qualifies = record { size = let e = h.size in omega arith; labels = h.labels.1; passes = h.passes };
              };
        }

-- each cost is usable, as a test
unfoldable pub usable : Matrix → ℕ → List ℕ → Bool
usable M t [] = true
usable M t (x ∷ p) = leb (cost M t x) 1000000 && usable M (t + 1) p

module _ (M : Matrix) where
  -- the outcome, where `test` decides the words
  unfoldable pub decided : (List ℕ → Bool) → Option (List ℕ)
  decided test = exhaustive (price M) (λ p. usable M 0 p && test (collapse p)) M.width M.count

  pub decided_outcome :
      (Word : List ℕ → Type 0) (test : List ℕ → Bool) → ((w : List ℕ) → test w ≡ true → Word w) → ((w : List ℕ) → Word w → test w ≡ true)
      → Outcome Word M (decided test)
  unfolding decided usable
  decided_outcome Word test to from =
      outcome_of_same (price M)
      (λ p h.
      record {
        path = record { one_each = h.size; labels = usable_path 0 p h.labels (and_left (usable M 0 p) (test (collapse p)) h.passes) };
        word = to (collapse p) (and_right (usable M 0 p) (test (collapse p)) h.passes);
      })
      (λ p r.
      record {
        size = r.path.one_each;
        labels = path_labels M 0 p r.path.labels;
        passes = and_both (usable M 0 p) (test (collapse p)) (path_usable 0 p r.path.labels) (from (collapse p) r.word);
      })
      (exhaustive (price M) (λ p. usable M 0 p && test (collapse p)) M.width M.count)
      (exhaustive_outcome (price M) (λ p. usable M 0 p && test (collapse p)) M.width M.count)
    where
      usable_path : (t : ℕ) (p : List ℕ) → Each (λ x. x < M.width) p → usable M t p ≡ true → PathFrom M t p
      usable_path t [] h e = tt
      usable_path t (x ∷ p) h e = (
        h.0,
        leb-true (cost M t x) 1000000 (and_left (leb (cost M t x) 1000000) (usable M (t + 1) p) e),
        usable_path (t + 1) p h.1 (and_right (leb (cost M t x) 1000000) (usable M (t + 1) p) e),
      )

      path_usable : (t : ℕ) (p : List ℕ) → PathFrom M t p → usable M t p ≡ true
      path_usable t [] h = refl
      path_usable t (x ∷ p) h =
          and_both (leb (cost M t x) 1000000) (usable M (t + 1) p) (le-leb (cost M t x) 1000000 h.1) (path_usable (t + 1) p h.2)

-- document 01's line to try: `aa` over three columns of 5, 1, 9
three : Matrix
three = matrix (5 ∷ 1 ∷ 9 ∷ 5 ∷ 1 ∷ 9 ∷ 5 ∷ 1 ∷ 9 ∷ []) 3 3

is_aa : List ℕ → Bool
is_aa [] = false
is_aa (x ∷ []) = false
is_aa (x ∷ (y ∷ [])) = eqb x 1 && eqb y 1
is_aa (x ∷ (y ∷ (z ∷ w))) = false

example : decided three is_aa ≡ some (1 ∷ 0 ∷ 1 ∷ [])
unfolding three is_aa decided exhaustive over better preferred not_after usable collapse merge without_blanks
example = refl

-- the blank barred in the second column: no list is left, although three columns are enough
example_barred : decided (matrix (5 ∷ 1 ∷ 9 ∷ 4294967295 ∷ 1 ∷ 9 ∷ 5 ∷ 1 ∷ 9 ∷ []) 3 3) is_aa ≡ none
unfolding is_aa decided exhaustive over better preferred not_after usable collapse merge without_blanks
example_barred = refl

-- the same blank barred in the other columns: they are not on the path
example_unused : decided (matrix (4294967295 ∷ 1 ∷ 9 ∷ 5 ∷ 1 ∷ 9 ∷ 4294967295 ∷ 1 ∷ 9 ∷ []) 3 3) is_aa ≡ some (1 ∷ 0 ∷ 1 ∷ [])
unfolding is_aa decided exhaustive over better preferred not_after usable collapse merge without_blanks
example_unused = refl
