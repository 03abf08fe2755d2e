-- What a label adds to the word, after the label before it.
use Rattle.std.specs.Prelude.{ℕ, ◌||◌, List, [], eqb}
use Rattle.ctc.specs.Collapse.{omitting}

-- what label x adds to the word after label a
abbrev pub added : ℕ → ℕ → List ℕ
added a x = omitting (eqb x a || eqb x 0) x []
