-- What it says that a form means a word list: demand 2, with the list's words in the place of an expression's.
use Rattle.std.specs.Prelude.{ℕ, ◌≡◌, true, ◌↔◌, List, length}
use Rattle.std.proofs.Math.Option.{some}
use Rattle.automaton.specs.Automaton.{Accepts}
use Rattle.automaton.specs.Form.{valid_form, view, letters_of, alphabet_of}
use Rattle.text_lines.specs.Lines.{lines_of}
use Rattle.wordlist.specs.Words.{words}
use Rattle.wordlist.specs.PrefixTree.{letters_in}
use Rattle.wordlist.specs.Listed.{Listed}

-- the form f is that of the list s over the alphabet A: valid, with its K and L, and with the words that are the lines of the list
pub record ListMeans (A s f : List ℕ) : Type 0 where
  pub valid : valid_form f ≡ true
  pub alphabet : alphabet_of f ≡ length A
  pub letters : letters_of f ≡ length (letters_in A (words s))
  pub lines : lines_of s ≡ some (words s)
  pub accepts : (w : List ℕ) → Accepts (view f) w ↔ Listed A (words s) w
