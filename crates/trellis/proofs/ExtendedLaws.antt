-- Laws of the extended states: where a path may end, and that steps lead to states of the automaton by its labels.
use Rattle.std.specs.Prelude.{ℕ, ◌+◌, ◌*◌, ◌/◌, ◌≤◌, ◌<◌, ◌≡◌, true, List, [], ◌∷◌, ◌↔◌, ◌⊎◌}
use Rattle.std.proofs.Common.{inl, inr, arith}
use Rattle.lists.specs.Each.{Each}
use Rattle.lists.proofs.OrderLaws.{eq_or_ne}
use Rattle.automaton.specs.Automaton.{Automaton}
use Rattle.automaton.specs.Proper.{Proper}
use Rattle.trellis.specs.Graph.{Leads, Way}
use Rattle.trellis.specs.Extended.{OnLetter, InBlanks, Step, stay, pass, arc, rest, leave, MayEnd, on_last, after_last, extended}

-- the state is on letter i or in the blanks after it; i is 0 if there is no letter yet
abbrev pub AtLetter : (i s : ℕ) → Type 0
AtLetter i s = OnLetter i s ⊎ InBlanks i s

pub at_letter : (s : ℕ) → AtLetter ((s + 1) / 2) s
at_letter s = by (eq_or_ne s (2 * ((s + 1) / 2)))
  where
    by : (s ≡ 2 * ((s + 1) / 2)) ⊎ (s ≡ 2 * ((s + 1) / 2) → ⊥) → AtLetter ((s + 1) / 2) s
    by (inl e) = inr e
    by (inr d) = inl (omega arith)

pub may_end : (A : Automaton) (i s : ℕ) → AtLetter i s → MayEnd A s ↔ (A.ends i ≡ true)
may_end A i s o = (ends o, may o)
  where
    ends : AtLetter i s → MayEnd A s → A.ends i ≡ true
    ends (inl o) (on_last j e h) = let q : i ≡ j = omega arith in rw q h
    ends (inl o) (after_last j e h) = absurd (omega arith)
    ends (inr o) (on_last j e h) = absurd (omega arith)
    ends (inr o) (after_last j e h) = let q : i ≡ j = omega arith in rw q h

    may : AtLetter i s → A.ends i ≡ true → MayEnd A s
    may (inl o) h = on_last i o h
    may (inr o) h = after_last i o h

module _ {k : ℕ} {A : Automaton} (proper : Proper k A) where
  -- Steps from states 0 to 2L lead to states 0 to 2L, by labels 0 to k.

  pub step_within : (s x s' : ℕ) → Step A s x s' → s ≤ 2 * A.letters → s' ≤ 2 * A.letters
  step_within s x s' (stay i o e o') h = omega arith
  step_within s x s' (pass i o e o') h = omega arith
  step_within s x s' (arc i j o f n e o') h = let t = proper.target i j f in omega arith
  step_within s x s' (rest i o e o') h = omega arith
  step_within s x s' (leave i j o f e o') h = let t = proper.target i j f in omega arith

  pub step_label : (s x s' : ℕ) → Step A s x s' → s ≤ 2 * A.letters → x ≤ k
  step_label s x s' (stay i o e o') h = let l = proper.labelled i (omega arith) (omega arith) in omega arith
  step_label s x s' (pass i o e o') h = omega arith
  step_label s x s' (arc i j o f n e o') h = let t = proper.target i j f in let l = proper.labelled j t.0 t.1 in omega arith
  step_label s x s' (rest i o e o') h = omega arith
  step_label s x s' (leave i j o f e o') h = let t = proper.target i j f in let l = proper.labelled j t.0 t.1 in omega arith

  leads_labels : (s u : ℕ) (p : List ℕ) → s ≤ 2 * A.letters → Leads (extended A) s p u → Each (λ x. x < k + 1) p
  leads_labels s u [] h l = tt
  leads_labels s u (x ∷ p) h l =
      let b = step_label s x l.0 l.1 h in
      (omega arith, leads_labels l.0 u p (step_within s x l.0 l.1 h) l.2)

  pub way_labels : (p : List ℕ) → Way (extended A) 0 p → Each (λ x. x < k + 1) p
  way_labels p w = leads_labels 0 w.end p (omega arith) w.leads
