-- What demand 3 calls a rival, with document 02's T-06. Past refusals 12 and 13 it is the same as `Rival` (`plain_exactly`, OutcomeLaws).
use Rattle.std.specs.Prelude.{ℕ, ◌≤◌, ◌≡◌, List, length}
use Rattle.lists.specs.Each.{Each}
use Rattle.ctc.specs.Collapse.{collapse}
use Rattle.matrix.specs.Matrix.{Matrix}
use Rattle.matrix.specs.Barred.{Unbarred}

-- a list of labels, one for each column, each 0 to k, that uses no barred label and whose collapse is a word
pub record PlainRival (Word : List ℕ → Type 0) (k : ℕ) (M : Matrix) (p : List ℕ) : Type 0 where
  pub one_each : length p ≡ M.count
  pub labels : Each (λ x. x ≤ k) p
  pub unbarred : Unbarred M p
  pub word : Word (collapse p)

abbrev pub NoRival : (Word : List ℕ → Type 0) (k : ℕ) → Matrix → Type 0
NoRival Word k M = (q : List ℕ) → PlainRival Word k M q → ⊥
