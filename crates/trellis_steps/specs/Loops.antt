-- The kept states that steps lead to, one iteration at a time of the loops over letters, arcs and states.
use Rattle.std.specs.Prelude.{ℕ, ◌+◌, ◌*◌, ◌-◌, ◌/◌, ◌≤◌, ◌<◌, ◌≡◌, refl, Bool, true, false, not, ◌&&◌, List, ◌⊎◌, ◌↔◌, eqb, length, get_or}
use Rattle.std.proofs.Common.{sym, ap, ◌∙◌, subst, inl, inr, arith, eqb-true, eq-eqb, ne_eqb}
use Rattle.std.proofs.lemmas.Bool.{eqb-false, not-true}
use Rattle.lists.proofs.OrderLaws.{not_both, and_left, and_right, and_both}
use Rattle.lists.proofs.MarksLaws.{marks_none, marks_same, marks_then, iterations_more}
use Rattle.lists.specs.Marks.{Has, Marks, Iterations, Listed}
use Rattle.automaton.specs.Automaton.{Automaton}
use Rattle.automaton.specs.Proper.{Proper}
use Rattle.automaton.specs.Form.{letters_of, alphabet_of, view, target}
use Rattle.automaton.specs.Valid.{Valid}
use Rattle.automaton.proofs.ValidLaws.{ArcAt, follow_arc, arc_follow, follow_target, valid_proper}
use Rattle.form_starts.specs.Starts.{StartsAt}
use Rattle.form_starts.specs.Loops.{range_source, source_range}
use Rattle.trellis.specs.Impossible.{TOP}
use Rattle.trellis.specs.Extended.{OnLetter, stay, pass, arc, rest, leave}
use Rattle.trellis.proofs.ExtendedLaws.{AtLetter, at_letter}
use Rattle.trellis.specs.Reached.{entering, Reached}
use Rattle.trellis.proofs.ReachedLaws.{entering_blanks, entering_letter}
use Rattle.trellis_members.specs.Members.{Lists, Just, JustIf}
use Rattle.trellis_members.specs.MembersLaws.{lists_has}
use Rattle.trellis_steps.specs.Steps.{AddUp, Keeps, KeptIn, KeptOf, KeptAt, Onto, OtherLetter, Led, Following, TargetOf, From}

-- a state is entered by the blank or by a label of the alphabet
pub entering_high : (f : List ℕ) → Valid f → (u : ℕ) → u ≤ 2 * letters_of f → entering (view f) u ≤ alphabet_of f
entering_high f valid u h = by (at_letter u)
  where
    by : AtLetter ((u + 1) / 2) u → entering (view f) u ≤ alphabet_of f
    by (inl o) =
        let e = entering_letter (view f) ((u + 1) / 2) u o in
        let l = (valid.letter ((u + 1) / 2) (omega arith) (omega arith)).high in
        omega arith
    by (inr o) = let e = entering_blanks (view f) ((u + 1) / 2) u o in omega arith

module _ {k : ℕ} {A : Automaton} (proper : Proper k A) (i s u : ℕ) where
  -- a step from a state on letter i or in the blanks after it; in blanks `own` is the blank, which no letter has
  onto : AtLetter i s → ((u ≡ s) ⊎ (u ≡ 2 * i)) ⊎ Following A (entering A s) i u → Onto A s u
  onto (inl o) (inl (inl e)) = stay i o (entering_letter A i u (omega arith)) (omega arith)
  onto (inl o) (inl (inr e)) = pass i o (entering_blanks A i u e) e
  onto (inl o) (inr (j, (f, (d, n)))) = arc i j o f (λ z. n (sym z ∙ sym (entering_letter A i s o))) (entering_letter A j u d) d
  onto (inr o) (inl (inl e)) = rest i o (entering_blanks A i u (omega arith)) (omega arith)
  onto (inr o) (inl (inr e)) = rest i o (entering_blanks A i u e) e
  onto (inr o) (inr (j, (f, (d, n)))) = leave i j o f (entering_letter A j u d) d

  same : (m : ℕ) → AtLetter i s → AtLetter m s → m ≡ i
  same m (inl o) (inl d) = omega arith
  same m (inl o) (inr d) = absurd (omega arith)
  same m (inr o) (inl d) = absurd (omega arith)
  same m (inr o) (inr d) = omega arith

  onto_only : AtLetter i s → Onto A s u → ((u ≡ s) ⊎ (u ≡ 2 * i)) ⊎ Following A (entering A s) i u
  onto_only o (stay m d e d') = inl (inl (omega arith))
  onto_only o (pass m d e d') = let z = same m o (inl d) in inl (inr (omega arith))
  onto_only o (arc m j d f n e d') = let z = same m o (inl d) in inr (j, (rw z at f, (d', λ q. n (sym (q ∙ entering_letter A m s d)))))
  onto_only o (rest m d e d') = inl (inl (omega arith))
  onto_only o (leave m j d f e d') =
      let z = same m o (inr d) in
      let t = proper.target m j f in
      let l = (proper.labelled j t.0 t.1).0 in
      let b = entering_blanks A m s d in
      inr (j, (rw z at f, (d', λ q. omega arith)))

-- The state u, entered by label x, put if the test holds.

module _ (column row : List ℕ) (v x u : ℕ) where
  pub add_up : v < TOP → (sum : ℕ) → sum ≡ get_or column x 0 + get_or row u 0 → (eqb sum v ≡ true) ↔ AddUp column row v x u
  add_up below sum is = (λ t. let e = eqb-true sum v t in omega arith, λ e. eq-eqb sum v (omega arith))

  pub at_put :
      (kept : Bool) (set after : List Bool) → (kept ≡ true) ↔ AddUp column row v x u → Marks (JustIf kept u) set after
      → Marks (KeptAt column row v x u) set after
  at_put kept set after is =
      marks_same (JustIf kept u) (KeptAt column row v x u) set after (λ k q. (q.1, is.0 q.0)) (λ k q. (is.1 q.1, q.0))

module _ (A : Automaton) (column row : List ℕ) (v : ℕ) where
  -- Kept states of some set: of the same set by another name, of none, of one state, of two sets, and of the iterations of a loop.

  kept_same :
      (P Q : ℕ → Type 0) (s t : List Bool) → ((k : ℕ) → P k → Q k) → ((k : ℕ) → Q k → P k) → Marks (KeptIn A column row v P) s t
      → Marks (KeptIn A column row v Q) s t
  kept_same P Q s t there back =
      marks_same (KeptIn A column row v P) (KeptIn A column row v Q) s t (λ k q. (there k q.0, q.1)) (λ k q. (back k q.0, q.1))

  kept_none : (P : ℕ → Type 0) (s : List Bool) → ((k : ℕ) → P k → ⊥) → Marks (KeptIn A column row v P) s s
  kept_none P s f = marks_none (KeptIn A column row v P) s (λ k q. f k q.0)

  pub kept_one :
      (x u : ℕ) (s t : List Bool) → x ≡ entering A u → Marks (KeptAt column row v x u) s t → Marks (KeptIn A column row v (Just u)) s t
  kept_one x u s t is = marks_same (KeptAt column row v x u) (KeptIn A column row v (Just u)) s t there back
    where
      there : (k : ℕ) → KeptAt column row v x u k → KeptIn A column row v (Just u) k
      there k (e, q) = (e, subst (Keeps A column row v) (sym e) (subst (λ y. AddUp column row v y u) is q))

      back : (k : ℕ) → KeptIn A column row v (Just u) k → KeptAt column row v x u k
      back k (e, q) = (e, subst (λ y. AddUp column row v y u) (sym is) (subst (Keeps A column row v) e q))

  kept_then :
      (P Q : ℕ → Type 0) (s t u : List Bool) → Marks (KeptIn A column row v P) s t → Marks (KeptIn A column row v Q) t u
      → Marks (KeptIn A column row v (λ k. P k ⊎ Q k)) s u
  kept_then P Q s t u a b =
      marks_same (λ k. KeptIn A column row v P k ⊎ KeptIn A column row v Q k) (KeptIn A column row v (λ k. P k ⊎ Q k)) s u there back
      (marks_then (KeptIn A column row v P) (KeptIn A column row v Q) s t u a b)
    where
      there : (k : ℕ) → KeptIn A column row v P k ⊎ KeptIn A column row v Q k → KeptIn A column row v (λ k. P k ⊎ Q k) k
      there k (inl q) = (inl q.0, q.1)
      there k (inr q) = (inr q.0, q.1)

      back : (k : ℕ) → KeptIn A column row v (λ k. P k ⊎ Q k) k → KeptIn A column row v P k ⊎ KeptIn A column row v Q k
      back k (inl p, q) = inl (p, q)
      back k (inr p, q) = inr (p, q)

  module _ (Q : ℕ → ℕ → Type 0) (m : ℕ) where
    pub kept_iterations_none : (s : List Bool) → Marks (KeptIn A column row v (Iterations Q m m)) s s
    kept_iterations_none s = kept_none (Iterations Q m m) s (λ k t. let l = t.1 in let h = t.2 in omega arith)

    inward : (n k : ℕ) → KeptIn A column row v (Iterations Q m n) k → Iterations (λ i. KeptIn A column row v (Q i)) m n k
    inward n k ((i, low, high, q), c) = (i, low, high, (q, c))

    outward : (n k : ℕ) → Iterations (λ i. KeptIn A column row v (Q i)) m n k → KeptIn A column row v (Iterations Q m n) k
    outward n k (i, low, high, (q, c)) = ((i, low, high, q), c)

    pub kept_iterations_more :
        (n : ℕ) (s t u : List Bool) → m ≤ n → Marks (KeptIn A column row v (Iterations Q m n)) s t → Marks (KeptIn A column row v (Q n)) t u
        → Marks (KeptIn A column row v (Iterations Q m (n + 1))) s u
    kept_iterations_more n s t u l a b =
        let R : ℕ → ℕ → Type 0 = λ i. KeptIn A column row v (Q i) in
        marks_same (Iterations R m (n + 1)) (KeptIn A column row v (Iterations Q m (n + 1))) s u (outward (n + 1)) (inward (n + 1))
        (iterations_more R m n s t u l (marks_same (KeptIn A column row v (Iterations Q m n)) (Iterations R m n) s t (inward n) (outward n) a) b)

  -- One letter, put if the test holds.

  module _ (own j : ℕ) (set after : List Bool) where
    pub letter_put :
        (x : ℕ) (kept : Bool) → 1 ≤ j → x ≡ A.label j → (kept ≡ true) ↔ AddUp column row v x (2 * j - 1)
        → Marks (JustIf (not (eqb x own) && kept) (2 * j - 1)) set after → Marks (KeptIn A column row v (OtherLetter A own j)) set after
    letter_put x kept low is add =
        marks_same (JustIf other (2 * j - 1)) (KeptIn A column row v (OtherLetter A own j)) set after there back
      where
        other : Bool
        other = not (eqb x own) && kept

        enters : (u : ℕ) → OnLetter j u → x ≡ entering A u
        enters u o = is ∙ sym (entering_letter A j u o)

        there : (u : ℕ) → JustIf other (2 * j - 1) u → KeptIn A column row v (OtherLetter A own j) u
        there u (e, z) =
            let o : OnLetter j u = omega arith in
            let sum = add.0 (and_right (not (eqb x own)) kept e) in (
              (o, λ q. eqb-false x own (not-true (eqb x own) (and_left (not (eqb x own)) kept e)) (is ∙ q)),
              subst (λ y. AddUp column row v y u) (enters u o) (subst (AddUp column row v x) (sym z) sum),
            )

        back : (u : ℕ) → KeptIn A column row v (OtherLetter A own j) u → JustIf other (2 * j - 1) u
        back u ((o, d), p) =
            let z : u ≡ 2 * j - 1 = omega arith in
            let sum = subst (AddUp column row v x) z (subst (λ y. AddUp column row v y u) (sym (enters u o)) p) in
            (and_both (not (eqb x own)) kept (ap not (ne_eqb x own (λ q. d (sym is ∙ q)))) (add.1 sum), z)

    pub led_put :
        (i : ℕ) → A.follow i j ≡ true → Marks (KeptIn A column row v (OtherLetter A own j)) set after
        → Marks (KeptIn A column row v (Led A own i j)) set after
    led_put i f = kept_same (OtherLetter A own j) (Led A own i j) set after (λ u q. (f, q)) (λ u q. q.1)

  module _ (own j : ℕ) (set : List Bool) where
    pub led_not : (i : ℕ) → A.follow i j ≡ false → Marks (KeptIn A column row v (Led A own i j)) set set
    led_not i f = kept_none (Led A own i j) set (λ u q. not_both (A.follow i j) q.0 f)

-- All letters that may follow letter i: the first letters where i is 0, else the targets of its arcs.

module _ (f column row : List ℕ) (v : ℕ) (valid : Valid f) (own : ℕ) (set after : List Bool) where
  pub firsts_put :
      Marks (KeptIn (view f) column row v (Iterations (Led (view f) own 0) 1 (letters_of f + 1))) set after
      → Marks (KeptIn (view f) column row v (Following (view f) own 0)) set after
  firsts_put = kept_same (view f) column row v (Iterations (Led (view f) own 0) 1 (letters_of f + 1)) (Following (view f) own 0) set after there back
    where
      there : (u : ℕ) → Iterations (Led (view f) own 0) 1 (letters_of f + 1) u → Following (view f) own 0 u
      there u (j, low, high, q) = (j, q)

      back : (u : ℕ) → Following (view f) own 0 u → Iterations (Led (view f) own 0) 1 (letters_of f + 1) u
      back u (j, q) = let t = follow_target f valid 0 j q.0 in (j, t.0, (let h = t.1 in omega arith), q)

  module _ (i b e : ℕ) (letter : 1 ≤ i) (first : StartsAt f i b) (next : StartsAt f (i + 1) e) where
    pub targets_put :
        Marks (KeptIn (view f) column row v (Iterations (TargetOf f own) b e)) set after
        → Marks (KeptIn (view f) column row v (Following (view f) own i)) set after
    targets_put = kept_same (view f) column row v (Iterations (TargetOf f own) b e) (Following (view f) own i) set after there back
      where
        there : (u : ℕ) → Iterations (TargetOf f own) b e u → Following (view f) own i u
        there u (n, low, high, q) =
            let p = first.past in
            let h = next.inside in
            let a : ArcAt f i (target (get_or f n 0)) =
            record { index = n; past = omega arith; inside = omega arith; from = range_source f i b e first next n low high; to = refl } in
            (target (get_or f n 0), (arc_follow f i (target (get_or f n 0)) letter a, q))

        back : (u : ℕ) → Following (view f) own i u → Iterations (TargetOf f own) b e u
        back u (j, (g, q)) =
            let a = follow_arc f i j letter g in
            let r = source_range f i b e first next a.index a.past a.inside a.from in
            (a.index, r.0, r.1, subst (λ m. OtherLetter (view f) own m u) (sym a.to) q)

-- All states that a step from state s leads to, and all that a step from the list leads to.

pub steps_put :
    (f column row : List ℕ) (v : ℕ) → Valid f → (i s : ℕ) (set one two after : List Bool) → AtLetter i s
    → Marks (KeptIn (view f) column row v (Just s)) set one → Marks (KeptIn (view f) column row v (Just (2 * i))) one two
    → Marks (KeptIn (view f) column row v (Following (view f) (entering (view f) s) i)) two after
    → Marks (KeptIn (view f) column row v (Onto (view f) s)) set after
steps_put f column row v valid i s set one two after o a b m =
    let A = view f in
    kept_same A column row v (λ u. (Just s u ⊎ Just (2 * i) u) ⊎ Following A (entering A s) i u) (Onto A s) set after
    (λ u. onto (valid_proper f valid) i s u o)
    (λ u. onto_only (valid_proper f valid) i s u o)
    (kept_then A column row v (λ u. Just s u ⊎ Just (2 * i) u) (Following A (entering A s) i) set two after
    (kept_then A column row v (Just s) (Just (2 * i)) set one two a b)
    m)

pub all_put :
    (A : Automaton) (column row : List ℕ) (v : ℕ) (list : List ℕ) (n : ℕ) (set after : List Bool)
    → Marks (KeptIn A column row v (Iterations (From A list) 0 n)) set after → Marks (KeptOf A column row v (Listed list n)) set after
all_put A column row v list n set after = kept_same A column row v (Iterations (From A list) 0 n) (Reached A (Listed list n)) set after there back
  where
    there : (u : ℕ) → Iterations (From A list) 0 n u → Reached A (Listed list n) u
    there u (k, low, high, q) = (get_or list k 0, (k, high, refl), q)

    back : (u : ℕ) → Reached A (Listed list n) u → Iterations (From A list) 0 n u
    back u (s, (k, high, e), q) = (k, omega arith, high, subst (λ s. Onto A s u) (sym e) q)

-- the same by the set whose members the list has
pub members_put :
    (A : Automaton) (column row : List ℕ) (v : ℕ) {from : List Bool} {list : List ℕ} (set after : List Bool) → Lists from list
    → Marks (KeptOf A column row v (Listed list (length list))) set after → Marks (KeptOf A column row v (Has from)) set after
members_put A column row v {from = from} {list = list} set after lists =
    kept_same A column row v (Reached A (Listed list (length list))) (Reached A (Has from)) set after
    (λ u (s, l, o). (s, lists_has lists s l, o))
    (λ u (s, h, o). (s, lists.all s h, o))
