-- The form of a tree is valid, and accepts exactly the words of the tree.
use Rattle.std.specs.Prelude.{ℕ, ◌≤◌, ◌≡◌, ◌↔◌, true, List, length}
use Rattle.std.proofs.Common.{◌∙◌, arith}
use mathlib.Core.Logic.Iff.{trans as iff_trans, symm as iff_symm}
use Rattle.automaton.specs.Automaton.{Accepts}
use Rattle.automaton.specs.Form.{valid_form, view, alphabet_of, letters_of}
use Rattle.automaton.proofs.EncodeLaws.{encode_valid, encode_accepts, letters_same, alphabet_same}
use Rattle.regex_tree.specs.Tree.{Tree, Words}
use Rattle.regex_tree.specs.Letters.{letter_count}
use Rattle.regex_tree.proofs.SenseLaws.{Sensible, letters_some}
use Rattle.positions.proofs.LettersLaws.{opened_letters}
use Rattle.positions.specs.Numbered.{position_automaton, automaton_of}
use Rattle.positions.proofs.Exact.{accepts_words, automaton_proper}
use Rattle.positions.specs.Compiled.{form_of}

pub automaton_letters : (A : List ℕ) (t : Tree) → Sensible A t → (automaton_of A t).letters ≡ letter_count A t
unfolding position_automaton
automaton_letters A t o = opened_letters A t o

-- an alphabet of 1 to 95 characters, and at most 127 letters
module _ (A : List ℕ) (t : Tree) (o : Sensible A t) (low : 1 ≤ length A) (high : length A ≤ 95) (few : letter_count A t ≤ 127) where
  pub form_valid : valid_form (form_of A t) ≡ true
  form_valid =
      encode_valid (length A) (automaton_of A t) (automaton_proper A t)
      (omega (arith, automaton_letters A t o, letters_some A t o)) (omega (arith, automaton_letters A t o)) low high

  pub form_alphabet : alphabet_of (form_of A t) ≡ length A
  form_alphabet =
      alphabet_same (length A) (automaton_of A t) (automaton_proper A t)
      (omega (arith, automaton_letters A t o, letters_some A t o)) (omega (arith, automaton_letters A t o)) low high

  pub form_letters : letters_of (form_of A t) ≡ letter_count A t
  form_letters =
      letters_same (length A) (automaton_of A t) (automaton_proper A t)
      (omega (arith, automaton_letters A t o, letters_some A t o)) (omega (arith, automaton_letters A t o)) low high
      ∙ automaton_letters A t o

  pub form_words : (w : List ℕ) → Accepts (view (form_of A t)) w ↔ Words A t w
  form_words w =
      iff_trans
      (iff_symm (encode_accepts (length A) (automaton_of A t) (automaton_proper A t)
      (omega (arith, automaton_letters A t o, letters_some A t o)) (omega (arith, automaton_letters A t o)) low high w))
      (accepts_words A t o w)
