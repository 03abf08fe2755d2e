-- What the call Judge answers for a form and a word: accepted or not, or the refusal that applies (document 01, "What is turned away",
-- refusals 11 and 17).
use Rattle.std.specs.Prelude.{ℕ, Bool, not, List, [], ◌∷◌}
use Rattle.refusal.specs.declared.Refusal.TheVariants.{BadForm, Label}
use Rattle.refusal.specs.Verdict.{Verdict, check, unless}
use Rattle.ctc_labels.specs.Calls.{label_fault}
use Rattle.automaton.specs.Form.{valid_form, alphabet_of, view}
use Rattle.automaton.specs.Accepted.{accepts}

-- whether the form accepts the word, unless the form is invalid or the list is no word over its alphabet
unfoldable pub judged : List ℕ → List ℕ → Verdict Bool
judged form word = unless (check (not (valid_form form)) BadForm ∷ (check (label_fault (alphabet_of form) 1 word) Label ∷ [])) (accepts (view form) word)
