-- The lent memory of Decode and Read: path, word and work words.
use Rattle.std.specs.Prelude.{ℕ, List, length}
use Rattle.decode_checks.specs.Checks.{Rooms}

-- the lent lists
pub record Lent : Type 0 where
  pub path : List ℕ
  pub word : List ℕ
  pub work : List ℕ

abbrev pub lent : (path word work : List ℕ) → Lent
lent path word work = record { path = path; word = word; work = work }

abbrev pub rooms : Lent → Rooms
rooms m = record { path = length m.path; word = length m.word; work = length m.work }
