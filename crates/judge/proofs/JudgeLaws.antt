-- What Judge promises, as document 01 says it: a word is accepted exactly if a walk spells it.
use Rattle.std.specs.Prelude.{ℕ, ◌≤◌, ◌≡◌, refl, Bool, true, false, ◌↔◌, List, [], ◌∷◌, length, get_or, leb}
use Rattle.std.proofs.Common.{ap, ◌∙◌, arith, le-leb}
use Rattle.std.proofs.Math.Bool.{not}
use mathlib.Core.Logic.Iff.{trans as iff_trans}
use Rattle.lists.specs.Lists.{in_range}
use Rattle.lists.specs.Each.{Each}
use Rattle.lists.proofs.OrderLaws.{and_both}
use Rattle.lists.proofs.EachLaws.{each_all}
use Rattle.refusal.specs.declared.Refusal.TheVariants.{BadForm, Label}
use Rattle.refusal.specs.Verdict.{passed, refused, check}
use Rattle.refusal.proofs.VerdictLaws.{unless_holds, unless_second, unless_neither}
use Rattle.ctc_labels.specs.Calls.{label_fault}
use Rattle.ctc_labels.proofs.CallsLaws.{fault_labels}
use Rattle.automaton.specs.Automaton.{Accepts}
use Rattle.automaton.specs.Form.{bit8, valid_form, alphabet_of, view}
use Rattle.automaton.specs.Accepted.{accepts}
use Rattle.automaton.proofs.AcceptedLaws.{accepts_decides}
use Rattle.automaton.proofs.ValidLaws.{valid_at, view_proper}
use Rattle.automaton.specs.FormAccepts.{WalkSpells}
use Rattle.automaton.proofs.FormAcceptsLaws.{empty_accepted, nonempty_accepted}
use Rattle.judge.specs.Judge.{judged}

module _ (form word : List ℕ) where
  pub judged_invalid : valid_form form ≡ false → judged form word ≡ refused BadForm
  unfolding judged
  judged_invalid e =
      unless_holds (accepts (view form) word) (not (valid_form form)) BadForm (check (label_fault (alphabet_of form) 1 word) Label ∷ []) (ap not e)

  pub judged_no_word : valid_form form ≡ true → label_fault (alphabet_of form) 1 word ≡ true → judged form word ≡ refused Label
  unfolding judged
  judged_no_word e f =
      unless_second (accepts (view form) word) (not (valid_form form)) (label_fault (alphabet_of form) 1 word) BadForm Label (ap not e) f

  pub judged_word : valid_form form ≡ true → label_fault (alphabet_of form) 1 word ≡ false → judged form word ≡ passed (accepts (view form) word)
  unfolding judged
  judged_word e f =
      unless_neither (accepts (view form) word) (not (valid_form form)) (label_fault (alphabet_of form) 1 word) BadForm Label (ap not e) f

  -- Of a valid form and a word of at most 255 labels 1 to K: accepted exactly if some walk spells the word, rejected exactly if none does.
  module _ (valid : valid_form form ≡ true) (short : length word ≤ 255) (labels : Each (λ x. (1 ≤ x) × (x ≤ alphabet_of form)) word) where
    decided : (accepts (view form) word ≡ true) ↔ Accepts (view form) word
    decided = accepts_decides (view form) (alphabet_of form) (view_proper form valid) word

    size : in_range 1 95 (alphabet_of form) ≡ true
    size =
        let h = (valid_at form valid).head in
        and_both (leb 1 (alphabet_of form)) (leb (alphabet_of form) 95) (le-leb 1 (alphabet_of form) h.alphabet_low) (le-leb (alphabet_of form) 95 h.alphabet_high)

    word_passes : judged form word ≡ passed (accepts (view form) word)
    word_passes =
        judged_word valid
        (fault_labels (alphabet_of form) 1 word size short
        ∙ ap not (each_all (in_range 1 (alphabet_of form)) (λ x. (1 ≤ x) × (x ≤ alphabet_of form))
        (λ x h. and_both (leb 1 x) (leb x (alphabet_of form)) (le-leb 1 x h.0) (le-leb x (alphabet_of form) h.1)) word labels))

    pub judged_exact : (judged form word ≡ passed true) ↔ Accepts (view form) word
    judged_exact = ((λ q. decided.0 (cc word_passes)), λ q. word_passes ∙ ap passed (decided.1 q))

    pub judged_rejects : (judged form word ≡ passed false) ↔ (Accepts (view form) word → ⊥)
    judged_rejects = ((λ q a. rejected q (decided.1 a)), λ none. word_passes ∙ ap passed (never (accepts (view form) word) (λ e. none (decided.0 e))))
      where
        rejected : judged form word ≡ passed false → accepts (view form) word ≡ true → ⊥
        rejected q e = let z : ◌≡◌ {A = ℕ} 0 1 = cc word_passes in absurd (omega arith)

        never : (b : Bool) → (b ≡ true → ⊥) → b ≡ false
        never true h = absurd (h refl)
        never false h = refl

-- Of a valid form, by its words: the empty word is accepted exactly if bit 8 of the head says so, a nonempty one exactly if some walk from
-- a first letter along arcs to a last letter spells it.
module _ (form : List ℕ) (valid : valid_form form ≡ true) where
  pub judged_empty : (judged form [] ≡ passed true) ↔ (bit8 (get_or form 0 0) ≡ true)
  judged_empty = iff_trans (judged_exact form [] valid (omega arith) tt) (empty_accepted form)

  pub judged_nonempty :
      (x : ℕ) (w : List ℕ) → length (x ∷ w) ≤ 255 → Each (λ y. (1 ≤ y) × (y ≤ alphabet_of form)) (x ∷ w)
      → (judged form (x ∷ w) ≡ passed true) ↔ WalkSpells form (x ∷ w)
  judged_nonempty x w short labels = iff_trans (judged_exact form (x ∷ w) valid short labels) (nonempty_accepted form valid x w)
