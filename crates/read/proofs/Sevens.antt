-- The two sevens of the checked list, a crossed and a plain one side by side, with words as lists of characters (document 02, T-07).
use Rattle.std.specs.Prelude.{[], ◌∷◌}
use Rattle.std.proofs.Math.Option.{some}
use Rattle.text.specs.Bytes.{bytes}
use Rattle.regex_tree.specs.Characters.{SpellsWord}
use Rattle.matrix.specs.Matrix.{matrix}
use Rattle.outcome.specs.Outcome.{Outcome}
use Rattle.read_text.specs.SpeltLaws.{outcome_spelt}
use Rattle.read.proofs.Cases.{cases, cases_stated}

pub sevens_spelt : Outcome (SpellsWord (bytes "77") (bytes "77")) (matrix (0 ∷ 1 ∷ 5 ∷ 0 ∷ 5 ∷ 1 ∷ []) 3 2) (some (1 ∷ 2 ∷ []))
unfolding cases
sevens_spelt =
    (outcome_spelt (bytes "77") (bytes "77") (matrix (0 ∷ 1 ∷ 5 ∷ 0 ∷ 5 ∷ 1 ∷ []) 3 2) (some (1 ∷ 2 ∷ []))).0
    cases_stated.1.1.1.1.1.1.1.1.1.1.1.1.1.1.0.0
