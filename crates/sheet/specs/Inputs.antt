-- What the program promises of its input: how much of the buffer was read, and what is printed for it. No contract can say which bytes
-- are read.
use Rattle.std.specs.Prelude.{◌≡◌, ◌≤◌, List, [], ℕ, length, take, Result, Ok, Err}
use Rattle.text.specs.Bytes.{bytes}
use Rattle.sheet_answer.specs.Answer.{Prints}

-- `&xs[..n]` is within bounds and has n bytes. The second part follows from the first, so that a proof of `&xs[..n]` finds both.
abbrev pub IsPrefixLen : ℕ → List ℕ → Type 0
IsPrefixLen n xs = (n ≤ length xs) × (n ≡ length (take n xs))

module _ {E : Type 0} where
  -- The number counts bytes at the start of the buffer. A read that fails leaves nothing to count.
  abbrev pub Arrived : Result ℕ E → List ℕ → Type 0
  Arrived (Ok n) buffer = IsPrefixLen n buffer
  Arrived (Err _) buffer = Unit {0}

  -- what is printed: for a whole input the answer to its bytes, after a read that failed nothing
  abbrev pub PrintsInput : Result ℕ E → (buffer output : List ℕ) → Type 0
  PrintsInput (Ok n) buffer output = Prints (take n buffer) output
  PrintsInput (Err _) buffer output = output ≡ []

-- document 01's sheet of 24 bytes, and a byte of the buffer that was not read
abbrev pub buffer : List ℕ
buffer = bytes "ab\naa\n5 1 9\n5 1 9\n5 1 9\n7"
