-- What one iteration of each loop over sets of letters marks, and how such sets decide whether a word is accepted.
use Rattle.std.specs.Prelude.{ℕ, zero, suc, ◌+◌, ◌<◌, ◌≤◌, ◌≡◌, refl, Bool, true, false, ◌⊎◌, ◌↔◌, List, [], ◌∷◌, length, get_or, drop, set, replicate}
use Rattle.std.proofs.Common.{sym, ap, subst, ◌∙◌, inl, inr, arith}
use Rattle.lists.proofs.OrderLaws.{same_truth, not_both}
use Rattle.lists.proofs.EachLaws.{drop_here, drop_all}
use Rattle.lists.proofs.MarksLaws.{has_none, marks_none, marks_one, marks_same}
use Rattle.lists.specs.Marks.{Has, Marks, Iterations}
use Rattle.automaton.specs.Automaton.{Automaton, Spells, Accepts}
use Rattle.automaton.specs.Proper.{Proper}
use Rattle.automaton.specs.Accepted.{accepts}
use Rattle.automaton.proofs.AcceptedLaws.{accepts_decides, spells_letter, letter_spells}
use Rattle.automaton.specs.Form.{letters_of, label_of, follow_of, view}
use Rattle.automaton.specs.Valid.{Valid}
use Rattle.automaton.proofs.ValidLaws.{follow_arc, arc_follow, first_letter, follow_source}
use Rattle.form_starts.specs.Starts.{StartsAt}
use Rattle.form_starts.specs.Loops.{range_source, source_range}
use Rattle.form_sets.specs.Sets.{Enters, Advanced, EndsIn, no_letter, Labelled, Begun, Reached}

-- a walk from one of the set spells the word
abbrev pub SpellsFrom : Automaton → List Bool → List ℕ → Type 0
SpellsFrom A set w = (i : ℕ) × Has set i × Spells A i w

-- what the iteration of `advance` at i marks: what may follow i, if i is in the set
abbrev pub Left : List ℕ → ℕ → List Bool → ℕ → ℕ → Type 0
Left f x set i k = Has set i × Enters (view f) x i k

module _ (A : Automaton) where
  pub begin : (w : List ℕ) → Accepts A w ↔ SpellsFrom A no_letter w
  begin w = ((λ s. (0, refl, s)), λ q. back q.0 q.1 q.2)
    where
      back : (i : ℕ) → Has no_letter i → Spells A i w → Spells A 0 w
      back zero h s = s
      back (suc i) h s = absurd (has_none 127 i h)

  advance_there : (x : ℕ) (w : List ℕ) (s t : List Bool) → Advanced A x s t → SpellsFrom A s (x ∷ w) → SpellsFrom A t w
  advance_there x w s t a (i, h, sp) = let r = spells_letter A i x w sp in (r.0, a.reached i r.0 h (r.1, r.2), r.3)

  advance_back : (x : ℕ) (w : List ℕ) (s t : List Bool) → Advanced A x s t → SpellsFrom A t w → SpellsFrom A s (x ∷ w)
  advance_back x w s t a (j, h, sp) =
      let r = a.only j h in
      (r.0, r.1, letter_spells A r.0 j x w r.2.0 r.2.1 sp)

  end_there : (s : List Bool) → SpellsFrom A s [] → EndsIn A s
  end_there s (i, h, ([], walk, e)) = (i, h, walk)
  end_there s (i, h, (j ∷ js, walk, e)) = let z : ◌≡◌ {A = ℕ} 0 1 = cc in absurd (omega arith)

  end_back : (s : List Bool) → EndsIn A s → SpellsFrom A s []
  end_back s (i, h, e) = (i, h, ([], e, refl))

  -- the loop over a word: what is left of it decides, from the present set
  module _ (word : List ℕ) (s : List Bool) (n : ℕ) (left : Accepts A word ↔ SpellsFrom A s (drop n word)) where
    pub set_more : (t : List Bool) → n < length word → Advanced A (get_or word n 0) s t → Accepts A word ↔ SpellsFrom A t (drop (n + 1) word)
    set_more t h a =
        let here : drop n word ≡ get_or word n 0 ∷ drop (n + 1) word = drop_here 0 word n h in (
          (λ q. advance_there (get_or word n 0) (drop (n + 1) word) s t a (subst (SpellsFrom A s) here (left.0 q))),
          λ q. left.1 (subst (SpellsFrom A s) (sym here) (advance_back (get_or word n 0) (drop (n + 1) word) s t a q)),
        )

    pub set_end : (k : ℕ) (answer : Bool) → Proper k A → length word ≤ n → (answer ≡ true) ↔ EndsIn A s → answer ≡ accepts A word
    set_end k answer proper h ends =
        let none : drop n word ≡ [] = drop_all word n h in
        let decided = accepts_decides A k proper word in
        same_truth answer (accepts A word)
        (λ e. decided.1 (left.1 (subst (SpellsFrom A s) (sym none) (end_back s (ends.0 e)))))
        (λ e. ends.1 (end_there s (subst (SpellsFrom A s) none (left.0 (decided.0 e)))))

module _ (f : List ℕ) (x : ℕ) where
  module _ (j : ℕ) (s t : List Bool) where
    pub mark_label : label_of f j ≡ x → j < length s → Marks (Labelled f x j) s (set s j true)
    mark_label e l = marks_same (λ k. k ≡ j) (Labelled f x j) s (set s j true) (λ k q. (q, ap (label_of f) q ∙ e)) (λ k q. q.0) (marks_one j s l)

    pub mark_other : (label_of f j ≡ x → ⊥) → Marks (Labelled f x j) s s
    mark_other d = marks_none (Labelled f x j) s (λ k q. d (sym (ap (label_of f) q.0) ∙ q.1))

    pub begun_first : follow_of f 0 j ≡ true → Marks (Labelled f x j) s t → Marks (Begun f x j) s t
    begun_first e m = marks_same (Labelled f x j) (Begun f x j) s t (λ k q. (q.0, (ap (follow_of f 0) q.0 ∙ e, q.1))) (λ k q. (q.0, q.1.1)) m

    pub begun_other : follow_of f 0 j ≡ false → Marks (Begun f x j) s s
    begun_other e = marks_none (Begun f x j) s (λ k q. not_both (follow_of f 0 j) (sym (ap (follow_of f 0) q.0) ∙ q.1.0) e)

  pub all_begun : (s t : List Bool) (n : ℕ) → letters_of f < n → Marks (Iterations (Begun f x) 1 n) s t → Marks (Enters (view f) x 0) s t
  all_begun s t n h m =
      marks_same (Iterations (Begun f x) 1 n) (Enters (view f) x 0) s t
      (λ k q. q.3.1)
      (λ k q. let r = first_letter f k q.0 in (k, r.0, omega arith, (refl, q)))
      m

  pub all_reached :
      (s t : List Bool) (i b e : ℕ) → 1 ≤ i → StartsAt f i b → StartsAt f (i + 1) e → Marks (Iterations (Reached f x) b e) s t → Marks (Enters (view f) x i) s t
  all_reached s t i b e l first next m =
      marks_same (Iterations (Reached f x) b e) (Enters (view f) x i) s t
      (λ k (n, low, high, q).
      let p = first.past in
      let r = next.inside in (
        arc_follow f i k l
            (record { index = n; past = omega arith; inside = omega arith; from = range_source f i b e first next n low high; to = sym q.0 }),
        q.1,
      ))
      (λ k q.
      let a = follow_arc f i k l q.0 in
      let r = source_range f i b e first next a.index a.past a.inside a.from in
      (a.index, r.0, r.1, (sym a.to, q.1)))
      m

  pub all_left :
      Valid f → (s t : List Bool) (n : ℕ) → letters_of f < n → Marks (Iterations (Left f x s) 0 n) (replicate 128 false) t → Advanced (view f) x s t
  all_left valid s t n h m =
      record {
        size = m.size;
        reached = λ i j g q. let r = follow_source f valid i j q.0 in m.marked j (i, omega arith, omega arith, (g, q));
        only = λ j g. by j (m.only j g);
      }
    where
      by : (j : ℕ) → Has (replicate 128 false) j ⊎ Iterations (Left f x s) 0 n j → (i : ℕ) × Has s i × Enters (view f) x i j
      by j (inl g) = absurd (has_none 128 j g)
      by j (inr q) = (q.0, q.3.0, q.3.1)

  -- what the iteration at i marks, if i is in the set, and if it is not
  pub left_beyond : (s u t : List Bool) (i : ℕ) → Has s i → Marks (Enters (view f) x i) u t → Marks (Left f x s i) u t
  left_beyond s u t i h m = marks_same (Enters (view f) x i) (Left f x s i) u t (λ k q. (h, q)) (λ k q. q.1) m

  pub left_out : (s u : List Bool) (i : ℕ) → get_or s i false ≡ false → Marks (Left f x s i) u u
  left_out s u i h = marks_none (Left f x s i) u (λ k q. not_both (get_or s i false) q.0 h)
