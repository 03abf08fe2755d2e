-- The lines that are printed for Read's answer, and the path and word memory that they need.
use Rattle.std.specs.Prelude.{ℕ, ◌≤◌, List, length, take, Result, Ok, Err}
use Rattle.refusal.specs.declared.Refusal.{Refusal}
use Rattle.refusal.specs.Number.{number_of}
use Rattle.answers.specs.declared.Reading.{Reading}
use Rattle.sheet_lines.specs.Lines.{reading_lines, refusal_line}

abbrev pub answer_lines : Result Reading Refusal → (count : ℕ) (path word : List ℕ) → List ℕ
answer_lines (Ok r) t path word = reading_lines r.price (take r.length word) (take t path)
answer_lines (Err n) t path word = refusal_line (number_of n)

-- the word and the path of a reading are within the memory
abbrev pub Shown : Result Reading Refusal → (count : ℕ) (path word : List ℕ) → Type 0
Shown (Ok r) t path word = (r.length ≤ length word) × (t ≤ length path)
Shown (Err n) t path word = Unit {0}
