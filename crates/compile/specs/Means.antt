-- What it says that a form means a text: demand 2, with the text's words over labels. Over characters it is `compiled_spells` (Meaning).
use Rattle.std.specs.Prelude.{ℕ, ◌≡◌, true, ◌↔◌, List, length}
use Rattle.automaton.specs.Automaton.{Accepts}
use Rattle.automaton.specs.Form.{valid_form, view, letters_of, alphabet_of}
use Rattle.regex_tree.specs.Tree.{Tree}
use Rattle.regex_tree.specs.Letters.{letter_count}
use Rattle.regex_tree.specs.Grammar.{TextOf, WordsOf}

-- the form f is that of the text s over the alphabet A: valid, with its K and L, and with the text's words
pub record Means (A s f : List ℕ) : Type 0 where
  pub valid : valid_form f ≡ true
  pub alphabet : alphabet_of f ≡ length A
  pub tree : Tree
  pub text : TextOf A 16 tree s
  pub letters : letters_of f ≡ letter_count A tree
  pub words : (w : List ℕ) → Accepts (view f) w ↔ WordsOf A s w
