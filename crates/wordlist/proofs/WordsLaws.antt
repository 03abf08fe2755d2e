-- Laws of refusals 21 and 8: what a list that passes them is.
use Rattle.std.specs.Prelude.{ℕ, ◌≤◌, ◌≡◌, refl, false, not, ◌||◌, ◌↔◌, List, [], ◌∷◌, length}
use Rattle.std.proofs.Common.{ap, ap₂, ⊎_elim, arith, eqb-true, eq-eqb}
use Rattle.std.proofs.Math.Option.{Option, some, none}
use Rattle.lists.specs.Each.{Each}
use Rattle.lists.specs.Lists.{Among, any, same_list, Distinct}
use Rattle.lists.proofs.AmongLaws.{any_among, among_any, among_each, each_among}
use Rattle.lists.specs.Options.{is_some, listed}
use Rattle.lists.proofs.OrderLaws.{not_both, never_true, or_neither, lt_or_le}
use Rattle.lists.proofs.SameLaws.{same_list_true, same_list_self}
use Rattle.alphabet.specs.Labels.{labels_of_character}
use Rattle.alphabet.proofs.LabelsLaws.{labelled_exactly}
use Rattle.text_lines.specs.Lines.{lines_of}
use Rattle.text_lines.proofs.LinesLaws.{lines_any}
use Rattle.wordlist.specs.Words.{words, repeated, list_fault, unlabelled, foreign, strange}

repeated_exactly : (ws : List (List ℕ)) → (repeated ws ≡ false) ↔ Distinct ws
unfolding repeated
repeated_exactly [] = (λ e. tt, λ h. refl)
repeated_exactly (w ∷ ws) = (
  λ e.
      let r = or_neither (any (same_list w) ws) (repeated ws) e in (
        among_each (λ v. w ≡ v → ⊥) ws (λ v m q. not_both (any (same_list w) ws) (among_any (same_list w) v ws m (rw q (same_list_self v))) r.0),
        (repeated_exactly ws).0 r.1,
      ),
  λ h.
      ap₂ ◌||◌
      (never_true (any (same_list w) ws) (λ e.
      let r = any_among (same_list w) ws e in
      each_among (λ v. w ≡ v → ⊥) r.0 ws h.0 r.1 (same_list_true w r.0 r.2)))
      ((repeated_exactly ws).1 h.1),
)

empty_exactly : (ws : List (List ℕ)) → (any (same_list []) ws ≡ false) ↔ Each (λ w. 1 ≤ length w) ws
empty_exactly ws = (
  λ e. among_each (λ w. 1 ≤ length w) ws (λ w m. long w (λ q. not_both (any (same_list []) ws) (among_any (same_list []) w ws m (rw q (same_list_self w))) e)),
  λ h.
      never_true (any (same_list []) ws) (λ e.
      let r = any_among (same_list []) ws e in
      let l = each_among (λ w. 1 ≤ length w) r.0 ws h r.1 in
      let n = ap length (same_list_true [] r.0 r.2) in
      omega arith),
)
  where
    long : (w : List ℕ) → ([] ≡ w → ⊥) → 1 ≤ length w
    long [] n = absurd (n refl)
    long (b ∷ w) n = omega arith

-- Refusal 21 exactly: what passes it has lines, none of which is empty, and no two of which are the same.
pub fault_exactly : (s : List ℕ) → (list_fault s ≡ false) ↔ ((lines_of s ≡ some (words s)) × Each (λ w. 1 ≤ length w) (words s) × Distinct (words s))
unfolding list_fault
fault_exactly s = (
  λ e.
      let a = or_neither (not (is_some (lines_of s))) (any (same_list []) (words s) || repeated (words s)) e in
      let b = or_neither (any (same_list []) (words s)) (repeated (words s)) a.1 in
      (closed (lines_of s) a.0, (empty_exactly (words s)).0 b.0, (repeated_exactly (words s)).0 b.1),
  λ h. ap₂ ◌||◌ (ap (λ o. not (is_some o)) h.0) (ap₂ ◌||◌ ((empty_exactly (words s)).1 h.1) ((repeated_exactly (words s)).1 h.2)),
)
  where
    closed : (o : Option (List (List ℕ))) → not (is_some o) ≡ false → o ≡ some (listed o)
    closed none e = let z : ◌≡◌ {A = ℕ} 0 1 = cc in absurd (omega arith)
    closed (some ls) e = refl

pub none_empty : (s : List ℕ) → list_fault s ≡ false → any (same_list []) (words s) ≡ false
none_empty s e = (empty_exactly (words s)).1 ((fault_exactly s).0 e).1

-- A character has no label exactly if the alphabet does not list it.
pub unlabelled_exactly : (A : List ℕ) (c : ℕ) → (unlabelled A c ≡ false) ↔ Among c A
unlabelled_exactly A c = (
  λ e. (labelled_exactly A c).0 (⊎_elim (λ l. absurd (not_both (unlabelled A c) (eq-eqb (length (labels_of_character A c)) 0 (omega arith)) e)) (λ l. l) (lt_or_le (length (labels_of_character A c)) 1)),
  λ m. never_true (unlabelled A c) (λ e. let z = eqb-true (length (labels_of_character A c)) 0 e in let l = (labelled_exactly A c).1 m in omega arith),
)

-- Refusal 8 exactly: what passes it consists of characters that the alphabet lists.
pub foreign_exactly : (A : List ℕ) (ws : List (List ℕ)) → (foreign A ws ≡ false) ↔ Each (Each (λ c. Among c A)) ws
unfolding foreign
foreign_exactly A ws = (
  λ e.
      among_each (Each (λ c. Among c A)) ws
      (λ w m.
      among_each (λ c. Among c A) w
      (λ c k.
      (unlabelled_exactly A c).0
      (never_true (unlabelled A c) (λ t. not_both (any (any (unlabelled A)) ws) (among_any (any (unlabelled A)) w ws m (among_any (unlabelled A) c w k t)) e)))),
  λ h.
      never_true (any (any (unlabelled A)) ws) (λ e.
      let r = any_among (any (unlabelled A)) ws e in
      let q = any_among (unlabelled A) r.0 r.2 in
      let m = each_among (λ c. Among c A) q.0 r.0 (each_among (Each (λ c. Among c A)) r.0 ws h r.1) q.1 in
      not_both (unlabelled A q.0) q.2 ((unlabelled_exactly A q.0).1 m)),
)

-- refusal 8 by the bytes of the list
pub foreign_bytes : (A s : List ℕ) → lines_of s ≡ some (words s) → foreign A (words s) ≡ any (strange A) s
unfolding foreign
foreign_bytes A s e = lines_any (unlabelled A) s (words s) e
