-- There is one outcome, and it depends only on the words; past refusals 12 and 13 a rival is exactly what
-- demand 3 says.
use Rattle.std.specs.Prelude.{ℕ, ◌+◌, ◌≤◌, ◌<◌, ◌≡◌, refl, List, ◌↔◌, length}
use Rattle.std.proofs.Common.{ap, arith}
use Rattle.std.proofs.Math.Option.{Option, some, none}
use Rattle.ctc.specs.Collapse.{collapse}
use Rattle.ctc.proofs.CollapseLaws.{collapse_each, collapse_letters}
use Rattle.outcome.proofs.BestLaws.{best_same, best_unique}
use Rattle.lists.specs.Each.{Each}
use Rattle.lists.proofs.EachLaws.{each_map, each_both}
use Rattle.matrix.specs.Matrix.{Matrix, price}
use Rattle.matrix.specs.Barred.{NoneBarred}
use Rattle.matrix.specs.Paths.{PathOf, CostsPass}
use Rattle.matrix.proofs.PathsLaws.{none_barred, path_labels, unbarred_path}
use Rattle.outcome.proofs.OrderLaws.{order_antisymmetric}
use Rattle.outcome.proofs.PlainLaws.{rival_plain}
use Rattle.outcome.specs.Outcome.{Rival, OutcomeOf, Outcome}
use Rattle.outcome.specs.Plain.{PlainRival}

-- the outcome depends only on what qualifies
pub outcome_of_same :
    {P Q : List ℕ → Type 0} (cost : List ℕ → ℕ) → ((p : List ℕ) → P p → Q p) → ((p : List ℕ) → Q p → P p)
    → (a : Option (List ℕ)) → OutcomeOf P cost a → OutcomeOf Q cost a
outcome_of_same cost to from none h = λ p q. h p (from p q)
outcome_of_same cost to from (some p) h = best_same to from h

module _ (M : Matrix) where
  pub outcome_unique : (Word : List ℕ → Type 0) (a b : Option (List ℕ)) → Outcome Word M a → Outcome Word M b → a ≡ b
  outcome_unique Word none none h g = refl
  outcome_unique Word none (some q) h g = absurd (h q g.qualifies)
  outcome_unique Word (some p) none h g = absurd (g p h.qualifies)
  outcome_unique Word (some p) (some q) h g = ap {B = Option (List ℕ)} some (best_unique order_antisymmetric h g)

  pub rival_same : (Word₁ Word₂ : List ℕ → Type 0) → ((w : List ℕ) → Word₁ w → Word₂ w) → (p : List ℕ) → Rival Word₁ M p → Rival Word₂ M p
  rival_same Word₁ Word₂ f p r = record { path = r.path; word = f (collapse p) r.word }

  -- the same words give the same outcome
  pub outcome_same :
      (Word₁ Word₂ : List ℕ → Type 0) → ((w : List ℕ) → Word₁ w → Word₂ w) → ((w : List ℕ) → Word₂ w → Word₁ w)
      → (a : Option (List ℕ)) → Outcome Word₁ M a → Outcome Word₂ M a
  outcome_same Word₁ Word₂ to from a h = outcome_of_same (price M) (rival_same Word₁ Word₂ to) (rival_same Word₂ Word₁ from) a h

-- the labels of a path's collapse are 1 to k where the columns have the labels 0 to k
pub collapse_labels : (k : ℕ) (M : Matrix) → M.width ≡ k + 1 → (p : List ℕ) → PathOf M p → Each (λ x. (1 ≤ x) × (x ≤ k)) (collapse p)
collapse_labels k M wide p h =
    each_both (λ x. 0 < x) (λ x. x < M.width) (λ x. (1 ≤ x) × (x ≤ k)) (λ x g l. (omega arith, omega arith)) (collapse p) (collapse_letters p)
    (collapse_each (λ x. x < M.width) p (path_labels M 0 p h.labels))

-- A rival is what demand 3 says (`PlainRival`), whatever the costs are; past refusals 12 and 13 nothing else is asked of it.
module _ (Word : List ℕ → Type 0) (k : ℕ) (M : Matrix) (wide : M.width ≡ k + 1) (p : List ℕ) where
  pub plain_exactly : CostsPass M → PlainRival Word k M p ↔ Rival Word M p
  plain_exactly pass = (
    λ h.
        let labels = each_map (λ x. x ≤ k) (λ x. x < M.width) (λ x l. omega arith) p h.labels in
        record { path = record { one_each = h.one_each; labels = unbarred_path M pass 0 p labels h.unbarred }; word = h.word },
    rival_plain Word k M wide p,
  )

-- where no label is barred: one label of the matrix for each column, with a word as its collapse
pub passing_rival :
    (M : Matrix) → CostsPass M → NoneBarred M → (Word : List ℕ → Type 0) (p : List ℕ) → length p ≡ M.count → Each (λ x. x < M.width) p
    → Word (collapse p) → Rival Word M p
passing_rival M pass free Word p l h w = record { path = record { one_each = l; labels = unbarred_path M pass 0 p h (none_barred M free 0 p) }; word = w }
