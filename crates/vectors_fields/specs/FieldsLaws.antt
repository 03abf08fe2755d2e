-- `Counts` follows from the first of its two parts.
use Rattle.std.proofs.Common.{sym, length-take-le}
use Rattle.std.specs.Prelude.{List, ℕ, ◌≤◌, length}
use Rattle.vectors_fields.specs.Fields.{Counts}

pub counts : (n : ℕ) (l : List ℕ) → n ≤ length l → Counts n l
counts n l h = (h, sym (length-take-le n l h))
