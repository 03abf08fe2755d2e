-- The test `accepts` decides which words are accepted; automata that agree accept the same words.
use Prim.Native.Nat.{ℕ, ◌≤◌}
use Rattle.std.proofs.Math.Path.{◌≡◌}
use Rattle.std.specs.Prelude.{refl, true, ◌&&◌, ◌↔◌}
use Rattle.std.proofs.Common.{sym, ap₂, ◌∙◌, arith, eqb-true, eq-eqb}
use mathlib.Core.List.{List, [], ◌∷◌}
use Rattle.std.proofs.Math.Dec.{eqb}
use Rattle.lists.proofs.OrderLaws.{and_left, and_right, and_both}
use Rattle.lists.proofs.AmongLaws.{any_among, among_any}
use Rattle.lists.specs.Lists.{numbers}
use Rattle.lists.proofs.AscendingLaws.{among_numbers}
use Rattle.automaton.specs.Automaton.{Automaton, Walk, spelt, Spells, Accepts}
use Rattle.automaton.specs.Proper.{Proper}
use Rattle.automaton.specs.Accepted.{spells, accepts}

-- the first letter of a walk, and a letter before a walk
pub spells_letter : (A : Automaton) (i x : ℕ) (w : List ℕ) → Spells A i (x ∷ w) → (j : ℕ) × (A.follow i j ≡ true) × (A.label j ≡ x) × Spells A j w
spells_letter A i x w ([], walk, e) = let z : ◌≡◌ {A = ℕ} 0 1 = cc in absurd (omega arith)
spells_letter A i x w (j ∷ js, walk, e) = (j, walk.0, cc, (js, walk.1, cc))

pub letter_spells : (A : Automaton) (i j x : ℕ) (w : List ℕ) → A.follow i j ≡ true → A.label j ≡ x → Spells A j w → Spells A i (x ∷ w)
letter_spells A i j x w f e s = (j ∷ s.0, (f, s.1), ap₂ ◌∷◌ e s.2)

module _ (A : Automaton) where
  pub spells_true : (i : ℕ) (w : List ℕ) → spells A i w ≡ true → Spells A i w
  unfolding spells
  spells_true i [] e = ([], e, refl)
  spells_true i (x ∷ w) e =
      let r = any_among (λ j. A.follow i j && eqb (A.label j) x && spells A j w) (numbers 1 A.letters) e in
      let j : ℕ = r.0 in
      let front = and_left (A.follow i j && eqb (A.label j) x) (spells A j w) r.2 in
      letter_spells A i j x w
      (and_left (A.follow i j) (eqb (A.label j) x) front)
      (eqb-true (A.label j) x (and_right (A.follow i j) (eqb (A.label j) x) front))
      (spells_true j w (and_right (A.follow i j && eqb (A.label j) x) (spells A j w) r.2))

  module _ (k : ℕ) (proper : Proper k A) where
    pub true_spells : (i : ℕ) (w : List ℕ) → Spells A i w → spells A i w ≡ true
    unfolding spells
    true_spells i [] ([], walk, e) = walk
    true_spells i [] (j ∷ js, walk, e) = let z : ◌≡◌ {A = ℕ} 0 1 = cc in absurd (omega arith)
    true_spells i (x ∷ w) s =
        let r = spells_letter A i x w s in
        let j : ℕ = r.0 in
        let range = proper.target i j r.1 in
        among_any (λ h. A.follow i h && eqb (A.label h) x && spells A h w) j (numbers 1 A.letters)
        (among_numbers 1 A.letters j range.0 (omega arith))
        (and_both (A.follow i j && eqb (A.label j) x) (spells A j w)
        (and_both (A.follow i j) (eqb (A.label j) x) r.1 (eq-eqb (A.label j) x r.2))
        (true_spells j w r.3))

    -- the search decides which words are accepted
    pub accepts_decides : (w : List ℕ) → (accepts A w ≡ true) ↔ Accepts A w
    accepts_decides w = (spells_true 0 w, true_spells 0 w)

-- the same letters, labels, arcs and ends; nothing is said of numbers that are no letters
pub record Agree (A B : Automaton) : Type 0 where
  pub letters : A.letters ≡ B.letters
  pub label : (j : ℕ) → 1 ≤ j → j ≤ A.letters → A.label j ≡ B.label j
  pub follow : (i j : ℕ) → i ≤ A.letters → 1 ≤ j → j ≤ A.letters → A.follow i j ≡ B.follow i j
  pub ends : (i : ℕ) → i ≤ A.letters → A.ends i ≡ B.ends i

pub agree_sym : (A B : Automaton) → Agree A B → Agree B A
agree_sym A B a =
    let n = a.letters in
    record {
      letters = sym n;
      label = λ j l h. sym (a.label j l (omega arith));
      follow = λ i j g l h. sym (a.follow i j (omega arith) l (omega arith));
      ends = λ i h. sym (a.ends i (omega arith));
    }

agree_walk :
    (k : ℕ) (A B : Automaton) → Proper k A → Agree A B → (i : ℕ) (js : List ℕ) → i ≤ A.letters → Walk A i js
    → Walk B i js × (spelt B js ≡ spelt A js)
agree_walk k A B p a i [] h e = (sym (a.ends i h) ∙ e, refl)
agree_walk k A B p a i (j ∷ js) h w =
    let range = p.target i j w.0 in
    let r = agree_walk k A B p a j js range.1 w.1 in
    ((sym (a.follow i j h range.0 range.1) ∙ w.0, r.0), ap₂ ◌∷◌ (sym (a.label j range.0 range.1)) r.1)

pub agree_spells : (k : ℕ) (A B : Automaton) → Proper k A → Agree A B → (i : ℕ) (w : List ℕ) → i ≤ A.letters → Spells A i w → Spells B i w
agree_spells k A B p a i w h s = let r = agree_walk k A B p a i s.0 h s.1 in (s.0, r.0, r.1 ∙ s.2)

pub agree_accepts : (k m : ℕ) (A B : Automaton) → Proper k A → Proper m B → Agree A B → (w : List ℕ) → Accepts A w ↔ Accepts B w
agree_accepts k m A B p q a w = (agree_spells k A B p a 0 w (omega arith), agree_spells m B A q (agree_sym A B a) 0 w (omega arith))
