-- What a function that prints promises of the output memory and of the number that it answers.
use Rattle.std.specs.Prelude.{ℕ, ◌≤◌, ◌≡◌, List, length, take}
use Rattle.lists.specs.Memory.{Wrote}

-- Bytes for which `Printed` holds are at the front of the output memory, and the rest is unchanged; the answer is their number.
pub record Answers (Printed : List ℕ → Type 0) (out out' : List ℕ) (answer : ℕ) : Type 0 where
  pub bytes : List ℕ
  pub is : Printed bytes
  pub wrote : Wrote bytes out out' answer
  -- the answer counts bytes at the start of the memory
  pub within : answer ≤ length out'
  pub counted : answer ≡ length (take answer out')
