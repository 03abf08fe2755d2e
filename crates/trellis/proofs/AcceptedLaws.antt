-- A path collapses to an accepted word exactly if it leads from state 0 to a state where it may end.
use Rattle.std.specs.Prelude.{ℕ, ◌*◌, ◌-◌, ◌≤◌, ◌≡◌, refl, true, ◌↔◌, ◌⊎◌}
use Rattle.std.proofs.Common.{sym, ap, ◌∙◌, subst, inl, inr, arith}
use mathlib.Core.List.{List, [], ◌∷◌, map}
use Rattle.lists.proofs.OrderLaws.{eq_or_ne}
use Rattle.ctc.specs.Collapse.{collapse}
use Rattle.ctc.proofs.CollapseLaws.{after, after_same, after_blank, after_new, collapse_after}
use Rattle.automaton.specs.Automaton.{Automaton, Walk, Spells, Accepts}
use Rattle.automaton.specs.Proper.{Proper}
use Rattle.trellis.specs.Graph.{Way}
use Rattle.trellis.proofs.GraphLaws.{way_step, way_split, way_here, way_none}
use Rattle.trellis.specs.Extended.{OnLetter, InBlanks, Step, stay, pass, arc, rest, leave, extended}
use Rattle.trellis.proofs.ExtendedLaws.{AtLetter, may_end}

module _ (A : Automaton) where
  -- the letters that spell a word, from the left
  spells_none : (i : ℕ) → Spells A i [] → A.ends i ≡ true
  spells_none i h = by h.0 h.1 h.2
    where
      by : (js : List ℕ) → Walk A i js → map A.label js ≡ [] → A.ends i ≡ true
      by [] w e = w
      by (j ∷ js) w e = let z : ◌≡◌ {A = ℕ} 0 1 = cc in absurd (omega arith)

  spells_split : (i x : ℕ) (w : List ℕ) → Spells A i (x ∷ w) → (j : ℕ) × (A.follow i j ≡ true) × (x ≡ A.label j) × Spells A j w
  spells_split i x w h = by h.0 h.1 h.2
    where
      by : (js : List ℕ) → Walk A i js → map A.label js ≡ x ∷ w → (j : ℕ) × (A.follow i j ≡ true) × (x ≡ A.label j) × Spells A j w
      by [] a e = let z : ◌≡◌ {A = ℕ} 0 1 = cc in absurd (omega arith)
      by (j ∷ js) a e = (j, a.0, (cc), (js, a.1, (cc)))

  spells_more : (i j x : ℕ) (w : List ℕ) → A.follow i j ≡ true → x ≡ A.label j → Spells A j w → Spells A i (x ∷ w)
  spells_more i j x w a e h = let m = h.2 in (j ∷ h.0, (a, h.1), (cc))

-- The path is a way from a state exactly if what it adds to the word is spelt after the state's letter: what it adds after that letter's
-- label if the state is on the letter, and after a blank if it is in blanks.
record Agrees (A : Automaton) (p : List ℕ) : Type 0 where
  pub on_letter : (i s : ℕ) → OnLetter i s → Way (extended A) s p ↔ Spells A i (after (A.label i) p)
  pub in_blanks : (i s : ℕ) → InBlanks i s → Way (extended A) s p ↔ Spells A i (after 0 p)

module _ {k : ℕ} {A : Automaton} (proper : Proper k A) where
  lettered : (i j : ℕ) → A.follow i j ≡ true → 1 ≤ A.label j
  lettered i j a = let t = proper.target i j a in (proper.labelled j t.0 t.1).0

  carried : (i : ℕ) {v w : List ℕ} → w ≡ v → Spells A i v → Spells A i w
  carried i e h = subst (Spells A i) (sym e) h

  agrees_none : Agrees A []
  unfolding after
  agrees_none = record { on_letter = λ i s o. ends (A.label i) i s (inl o); in_blanks = λ i s o. ends 0 i s (inr o) }
    where
      ends : (a i s : ℕ) → AtLetter i s → Way (extended A) s [] ↔ Spells A i (after a [])
      ends a i s o =
          let m = may_end A i s o in
          (λ w. ([], m.0 (way_none (extended A) s w), refl), λ h. way_here (extended A) s (m.1 (spells_none A i h)))

  module _ (x : ℕ) (p : List ℕ) (more : Agrees A p) where
    -- a step to letter j
    to_letter : (i j a s' : ℕ) → A.follow i j ≡ true → (x ≡ a → ⊥) → x ≡ A.label j → OnLetter j s' → Way (extended A) s' p → Spells A i (after a (x ∷ p))
    to_letter i j a s' f n e o w =
        let l = lettered i j f in
        carried i (after_new a x p n (λ z. omega arith) ∙ ap (λ y. x ∷ after y p) e)
        (spells_more A i j x (after (A.label j) p) f e ((more.on_letter j s' o).0 w))

    from_letter : (i s : ℕ) → OnLetter i s → Way (extended A) s (x ∷ p) → Spells A i (after (A.label i) (x ∷ p))
    from_letter i s o w = let g = way_split (extended A) s x p w in by g.0 g.1 g.2
      where
        by : (s' : ℕ) → Step A s x s' → Way (extended A) s' p → Spells A i (after (A.label i) (x ∷ p))
        by s' (stay j h e o') w =
            let q : j ≡ i = omega arith in
            let r : x ≡ A.label i = e ∙ ap A.label q in
            carried i (after_same (A.label i) x p r ∙ ap (λ y. after y p) r) ((more.on_letter i s' (omega arith)).0 w)
        by s' (pass j h e o') w = carried i (after_blank (A.label i) x p e ∙ ap (λ y. after y p) e) ((more.in_blanks i s' (omega arith)).0 w)
        by s' (arc i' j h f n e o') w =
            let q : i' ≡ i = omega arith in
            to_letter i j (A.label i) s' (rw q at f) (λ r. n (ap A.label q ∙ sym r ∙ e)) e o' w
        by s' (rest j h e o') w = absurd (omega arith)
        by s' (leave i' j h f e o') w = absurd (omega arith)

    from_blanks : (i s : ℕ) → InBlanks i s → Way (extended A) s (x ∷ p) → Spells A i (after 0 (x ∷ p))
    from_blanks i s o w = let g = way_split (extended A) s x p w in by g.0 g.1 g.2
      where
        by : (s' : ℕ) → Step A s x s' → Way (extended A) s' p → Spells A i (after 0 (x ∷ p))
        by s' (stay j h e o') w = absurd (omega arith)
        by s' (pass j h e o') w = absurd (omega arith)
        by s' (arc i' j h f n e o') w = absurd (omega arith)
        by s' (rest j h e o') w = carried i (after_blank 0 x p e ∙ ap (λ y. after y p) e) ((more.in_blanks i s' (omega arith)).0 w)
        by s' (leave i' j h f e o') w =
            let q : i' ≡ i = omega arith in
            let l = lettered i' j f in
            to_letter i j 0 s' (rw q at f) (λ r. omega arith) e o' w

    -- the converse, from what is spelt to a step by label x
    by_arc :
        (i s : ℕ) → ((j s' : ℕ) → A.follow i j ≡ true → x ≡ A.label j → OnLetter j s' → Step A s x s') → Spells A i (x ∷ after x p)
        → Way (extended A) s (x ∷ p)
    by_arc i s step h =
        let g = spells_split A i x (after x p) h in
        let j = g.0 in
        let t = (proper.target i j g.1).0 in
        let o : OnLetter j (2 * j - 1) = omega arith in
        way_step (extended A) (step j (2 * j - 1) g.1 g.2 o) ((more.on_letter j (2 * j - 1) o).1 (carried j (ap (λ y. after y p) (sym g.2)) g.3))

    letter_way : (i s : ℕ) → OnLetter i s → Spells A i (after (A.label i) (x ∷ p)) → Way (extended A) s (x ∷ p)
    letter_way i s o h = by (eq_or_ne x (A.label i)) (eq_or_ne x 0)
      where
        by : (x ≡ A.label i) ⊎ (x ≡ A.label i → ⊥) → (x ≡ 0) ⊎ (x ≡ 0 → ⊥) → Way (extended A) s (x ∷ p)
        by (inl e) z =
            way_step (extended A) (stay i o e o)
            ((more.on_letter i s o).1 (subst (Spells A i) (after_same (A.label i) x p e ∙ ap (λ y. after y p) e) h))
        by (inr n) (inl z) =
            way_step (extended A) {s' = 2 * i} (pass i o z refl)
            ((more.in_blanks i (2 * i) refl).1 (subst (Spells A i) (after_blank (A.label i) x p z ∙ ap (λ y. after y p) z) h))
        by (inr n) (inr z) = by_arc i s (λ j s' f e o'. arc i j o f (λ r. n (e ∙ sym r)) e o') (subst (Spells A i) (after_new (A.label i) x p n z) h)

    blanks_way : (i s : ℕ) → InBlanks i s → Spells A i (after 0 (x ∷ p)) → Way (extended A) s (x ∷ p)
    blanks_way i s o h = by (eq_or_ne x 0)
      where
        by : (x ≡ 0) ⊎ (x ≡ 0 → ⊥) → Way (extended A) s (x ∷ p)
        by (inl z) = way_step (extended A) (rest i o z o) ((more.in_blanks i s o).1 (subst (Spells A i) (after_blank 0 x p z ∙ ap (λ y. after y p) z) h))
        by (inr z) = by_arc i s (λ j s' f e o'. leave i j o f e o') (subst (Spells A i) (after_new 0 x p z z) h)

  agrees : (p : List ℕ) → Agrees A p
  agrees [] = agrees_none
  agrees (x ∷ p) =
      let more = agrees p in
      record {
        on_letter = λ i s o. (from_letter x p more i s o, letter_way x p more i s o);
        in_blanks = λ i s o. (from_blanks x p more i s o, blanks_way x p more i s o);
      }

  pub collapse_way : (p : List ℕ) → Accepts A (collapse p) ↔ Way (extended A) 0 p
  collapse_way p = let a = (agrees p).in_blanks 0 0 refl in (λ h. a.1 (rw (collapse_after p) at h), λ w. rw (collapse_after p) (a.0 w))
