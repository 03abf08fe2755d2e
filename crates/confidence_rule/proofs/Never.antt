-- Confidence 0 means never (document 02, T-06): in a matrix of costs of confidences a label is barred exactly if its confidence is 0, and
-- refusal 13 lets every cost through. For the reader: nothing uses it.
use Rattle.std.specs.Prelude.{ℕ, zero, suc, ◌+◌, ◌*◌, ◌^◌, ◌≤◌, ◌<◌, ◌≡◌, refl, Bool, true, false, List, [], ◌∷◌, map, ◌↔◌, length, get_or}
use Rattle.std.proofs.Common.{sym, ap, ◌∙◌, inl, inr, ⊎_elim, arith, ne_eqb}
use Rattle.lists.specs.Each.{Each}
use Rattle.lists.proofs.OrderLaws.{eq_or_ne}
use Rattle.matrix.specs.Matrix.{Matrix, matrix, BARRED, cost}
use Rattle.matrix.specs.Paths.{Passing, CostsPass}
use Rattle.confidence_rule.specs.Cost.{either, largest, within, shift, cost_of}

largest_within : (passes : ℕ → Bool) (n : ℕ) → largest passes n ≤ n
unfolding largest
largest_within passes zero = omega arith
largest_within passes (suc n) = by (passes (suc n)) (largest_within passes n)
  where
    by : (t : Bool) → largest passes n ≤ n → either t (suc n) (largest passes n) ≤ suc n
    by true h = omega arith
    by false h = omega arith

-- the cost of any other confidence is small
cost_small : (c : ℕ) → (c ≡ 0 → ⊥) → cost_of c ≤ 64
unfolding cost_of shift
cost_small c n = rw (ne_eqb c 0 n) (largest_within (within (c ^ 8)) 64)

cost_zero : cost_of 0 ≡ BARRED
unfolding cost_of
cost_zero = refl

cost_barred : (c : ℕ) → (cost_of c ≡ BARRED) ↔ (c ≡ 0)
cost_barred c = (λ e. ⊎_elim (λ z. z) (λ n. let s = cost_small c n in absurd (omega arith)) (eq_or_ne c 0), λ e. ap cost_of e ∙ cost_zero)

passing : (c : ℕ) → Passing (cost_of c)
passing c = ⊎_elim (λ e. inr ((cost_barred c).1 e)) (λ n. inl (let s = cost_small c n in omega arith)) (eq_or_ne c 0)

all_passing : (confidences : List ℕ) → Each Passing (map cost_of confidences)
all_passing [] = tt
all_passing (c ∷ cs) = (passing c, all_passing cs)

cost_at : (confidences : List ℕ) (i : ℕ) → i < length confidences → get_or (map cost_of confidences) i 0 ≡ cost_of (get_or confidences i 0)
cost_at [] i l = absurd (omega arith)
cost_at (c ∷ cs) zero l = refl
cost_at (c ∷ cs) (suc i) l = cost_at cs i (omega arith)

module _ (confidences : List ℕ) (width count : ℕ) where
  -- the matrix of their costs
  abbrev costs_of : Matrix
  costs_of = matrix (map cost_of confidences) width count

  pub always_pass : CostsPass costs_of
  always_pass = all_passing confidences

  pub never : (t x : ℕ) → t * width + x < length confidences → (cost costs_of t x ≡ BARRED) ↔ (get_or confidences (t * width + x) 0 ≡ 0)
  never t x l =
      let e = cost_at confidences (t * width + x) l in
      let b = cost_barred (get_or confidences (t * width + x) 0) in
      (λ h. b.0 (sym e ∙ h), λ h. e ∙ b.1 h)
