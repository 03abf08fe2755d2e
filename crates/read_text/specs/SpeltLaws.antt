-- The words of a text over labels and over characters have the same outcome.
use Rattle.std.specs.Prelude.{ℕ, ◌↔◌, List}
use Rattle.std.proofs.Math.Option.{Option}
use Rattle.matrix.specs.Matrix.{Matrix}
use Rattle.outcome.specs.Outcome.{Outcome}
use Rattle.outcome.proofs.OutcomeLaws.{outcome_same}
use Rattle.regex_tree.specs.Grammar.{WordsOf}
use Rattle.regex_tree.specs.Characters.{SpellsWord}
use Rattle.regex_tree.proofs.CharactersLaws.{words_of_spelt}

pub outcome_spelt : (A s : List ℕ) (M : Matrix) (o : Option (List ℕ)) → Outcome (WordsOf A s) M o ↔ Outcome (SpellsWord A s) M o
outcome_spelt A s M o = (
  outcome_same M (WordsOf A s) (SpellsWord A s) (λ w. (words_of_spelt A s w).0) (λ w. (words_of_spelt A s w).1) o,
  outcome_same M (SpellsWord A s) (WordsOf A s) (λ w. (words_of_spelt A s w).1) (λ w. (words_of_spelt A s w).0) o,
)
