-- What is asked of a reading (demand 3), for any set of words: the best of all rivals, or none where there is no rival.
use Rattle.std.specs.Prelude.{ℕ, List}
use Rattle.std.proofs.Math.Option.{Option, some, none}
use Rattle.ctc.specs.Collapse.{collapse}
use Rattle.outcome.specs.Best.{BestOf}
use Rattle.matrix.specs.Matrix.{Matrix, price}
use Rattle.matrix.specs.Paths.{PathOf}
use Rattle.outcome.specs.Order.{NotAfter}

-- a path whose collapse is a word; `PlainRival` (outcome/Plain) says it in the words of demand 3
pub record Rival (Word : List ℕ → Type 0) (M : Matrix) (p : List ℕ) : Type 0 where
  pub path : PathOf M p
  pub word : Word (collapse p)

-- the cheapest rival, and among equals the first by labels
abbrev pub Best : (List ℕ → Type 0) → Matrix → List ℕ → Type 0
Best Word M = BestOf (Rival Word M) (price M) NotAfter

-- the best of those that qualify, or nothing where none does
abbrev pub OutcomeOf : (List ℕ → Type 0) → (List ℕ → ℕ) → Option (List ℕ) → Type 0
OutcomeOf Qualifies cost none = (p : List ℕ) → Qualifies p → ⊥
OutcomeOf Qualifies cost (some p) = BestOf Qualifies cost NotAfter p

-- the best path, or nothing where there is no rival
abbrev pub Outcome : (List ℕ → Type 0) → Matrix → Option (List ℕ) → Type 0
Outcome Word M = OutcomeOf (Rival Word M) (price M)
