-- What the first line of a text says of refusal 21, and of whether a line comes again.
use Rattle.std.specs.Prelude.{ℕ, ◌+◌, ◌<◌, ◌≡◌, ◌⊎◌, Bool, true, false, List, length, drop, not, eqb}
use Rattle.std.proofs.Common.{sym, ap, ◌∙◌, subst, inl, inr, arith, length-drop, eq-eqb, ne_eqb}
use Rattle.lists.specs.Lists.{same_list}
use Rattle.lists.proofs.OrderLaws.{eq_or_ne}
use Rattle.text_lines.specs.Places.{part, LineEnd}
use Rattle.text_lines.proofs.PlacesLaws.{part_length}
use Rattle.wordlist.specs.Words.{list_fault}
use Rattle.wordlist_lines.specs.Again.{Again}
use Rattle.wordlist_lines.specs.FirstLine.{FirstLine}
use Rattle.wordlist_lines.specs.FaultLaws.{fault_unclosed, fault_empty, fault_again, fault_later, fault_none, again_none, again_unclosed, again_here, again_later}

module _ (text line after : List ℕ) (h : FirstLine text line after) where
  pub after_shorter : length after < length text
  after_shorter = let l = h.closed in omega (arith, ap length h.is_after, length-drop (h.end + 1) text)

  line_length : length line ≡ h.end
  line_length = ap length h.is_line ∙ part_length text 0 h.end (omega arith) h.ends.within ∙ omega arith

  again_is : (r : Bool) → Again line after r → Again (part 0 h.end text) (drop (h.end + 1) text) r
  again_is r a = subst (λ l. Again l (drop (h.end + 1) text) r) h.is_line (subst (λ s. Again line s r) h.is_after a)

  pub fault_of_empty : length line ≡ 0 → list_fault text ≡ true
  fault_of_empty e = let n = line_length in fault_empty text 0 h.end h.ends h.closed (omega arith)

  module _ (long : length line ≡ 0 → ⊥) (r : Bool) (again : Again line after r) where
    pub fault_of_again : r ≡ true → list_fault text ≡ true
    fault_of_again t = fault_again text 0 h.end h.ends h.closed (λ q. long (line_length ∙ q)) r (again_is r again) t

    pub fault_of_rest : r ≡ false → list_fault text ≡ list_fault after
    fault_of_rest t = fault_later text 0 h.end h.ends h.closed (λ q. long (line_length ∙ q)) r (again_is r again) t ∙ ap list_fault (sym h.is_after)

  pub again_first : (other : List ℕ) → same_list other line ≡ true → Again other text true
  again_first other t = again_here other text 0 h.end h.ends h.closed (ap (same_list other) (sym h.is_line) ∙ t)

  pub again_after : (other : List ℕ) (r : Bool) → same_list other line ≡ false → Again other after r → Again other text r
  again_after other r t a = again_later other text 0 h.end h.ends r h.closed (ap (same_list other) (sym h.is_line) ∙ t) (subst (λ s. Again other s r) h.is_after a)

-- no newline closes a line
module _ (text : List ℕ) (end : LineEnd text 0 (length text)) where
  pub fault_at_end : list_fault text ≡ not (eqb (length text) 0)
  fault_at_end = by (eq_or_ne (length text) 0)
    where
      by : (length text ≡ 0) ⊎ (length text ≡ 0 → ⊥) → list_fault text ≡ not (eqb (length text) 0)
      by (inl e) = fault_none text 0 (omega arith) ∙ sym (ap not (eq-eqb (length text) 0 e))
      by (inr n) = fault_unclosed text 0 (length text) end (omega arith) (omega arith) ∙ sym (ap not (ne_eqb (length text) 0 n))

  pub again_at_end : (other : List ℕ) → Again other text false
  again_at_end other = by (eq_or_ne (length text) 0)
    where
      by : (length text ≡ 0) ⊎ (length text ≡ 0 → ⊥) → Again other text false
      by (inl e) = again_none other text 0 (omega arith)
      by (inr n) = again_unclosed other text 0 (length text) end false (omega arith) (omega arith)
