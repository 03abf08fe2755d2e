-- What demand 3 asks of Decode and Read past their checks, for any set of words. What it calls a rival is `PlainRival` (outcome/Plain).
use Rattle.std.specs.Prelude.{ℕ, ◌≤◌, ◌≡◌, ◌⊎◌, List, length}
use Rattle.lists.specs.Memory.{written}
use Rattle.refusal.specs.declared.Refusal.TheVariants.{NoReading}
use Rattle.refusal.specs.Report.{Report, turned_away}
use Rattle.answers.specs.Decoded.{read}
use Rattle.ctc.specs.Collapse.{collapse}
use Rattle.matrix.specs.Matrix.{Matrix, price}
use Rattle.outcome.specs.Order.{NotAfter}
use Rattle.outcome.specs.Plain.{PlainRival, NoRival}
use Rattle.decode_valid.specs.Lent.{Lent}

-- A reading: the cheapest rival, and the first by labels among equals. Its own price and the length of its word are reported; the lent
-- memory begins with the path and with its word, which is its collapse as `spelt` gives it.
pub record BestReading (Word : List ℕ → Type 0) (spelt : List ℕ → List ℕ) (k form : ℕ) (M : Matrix) (before after : Lent) (answer : Report) : Type 0 where
  pub path : List ℕ
  pub rival : PlainRival Word k M path
  pub cheapest : (q : List ℕ) → PlainRival Word k M q → price M path ≤ price M q
  pub first : (q : List ℕ) → PlainRival Word k M q → price M q ≡ price M path → NotAfter path q
  pub reported : answer ≡ read (price M path) (length (spelt (collapse path))) form
  pub path_memory : after.path ≡ written path before.path
  pub word_memory : after.word ≡ written (spelt (collapse path)) before.word

-- 'no reading': there is no rival, and path and word memory are as they were
pub record HasNoReading (Word : List ℕ → Type 0) (k : ℕ) (M : Matrix) (before after : Lent) (answer : Report) : Type 0 where
  pub none : NoRival Word k M
  pub reported : answer ≡ turned_away NoReading
  pub path_memory : after.path ≡ before.path
  pub word_memory : after.word ≡ before.word

abbrev pub BestOrNone : (Word : List ℕ → Type 0) (spelt : List ℕ → List ℕ) (k form : ℕ) (M : Matrix) (before after : Lent) (answer : Report) → Type 0
BestOrNone Word spelt k form M before after answer = BestReading Word spelt k form M before after answer ⊎ HasNoReading Word k M before after answer
