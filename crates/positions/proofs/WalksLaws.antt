-- The words of a joining, an alternation, an optional and a repeated part, by the words of the parts: a walk is cut where it passes
-- from one part to the next.
use Rattle.std.specs.Prelude.{ℕ, zero, suc, ◌≤◌, ◌<◌, ◌≡◌, refl, ◌⊎◌, ◌↔◌, Bool, true, false, ◌&&◌, List, [], ◌∷◌, ◌++◌, map}
use Rattle.std.proofs.Common.{sym, ap, ◌∙◌, inl, inr, ⊎_elim, arith, eqb-true, eq-eqb}
use Rattle.std.proofs.Math.Logic.{⊎_map}
use Rattle.std.proofs.lemmas.List.{map-append}
use Rattle.lists.proofs.OrderLaws.{not_both, and_left, and_right, and_both, or_either, or_left, or_right}
use Rattle.automaton.specs.Automaton.{Walk, Accepts}
use Rattle.regex_tree.specs.Tree.{Joined}
use Rattle.positions.specs.Numbered.{Positions, bare, single, joint, choice, perhaps, again, follows, ending, assembled}
use Rattle.positions.proofs.InsideLaws.{Inside, goes_to, inside_perhaps, inside_again, again_ends, again_arcs, Agree, Apart, joint_ends, joint_arcs, joint_back, choice_front, choice_back}

module _ (c : ℕ) (label : ℕ → ℕ) where
  abbrev Through : Positions → ℕ → List ℕ → Type 0
  Through p i js = Walk (assembled c label p) i js

  abbrev Says : Positions → List ℕ → Type 0
  Says p w = Accepts (assembled c label p) w

  -- the words that the positions p spell are those of the set W
  abbrev pub Exact : Positions → (List ℕ → Type 0) → Type 0
  Exact p W = (w : List ℕ) → Says p w ↔ W w

  module _ {D : ℕ → Type 0} {p q : Positions} (a : Agree D p q) where
    walk_over : (js : List ℕ) (i : ℕ) → D i → Through p i js → Through q i js
    walk_over [] i d h = sym (a.ends i d) ∙ h
    walk_over (j ∷ js) i d h = (sym (a.arcs i j d) ∙ h.0, walk_over js j (a.closed i j d h.0) h.1)

    walk_back : (js : List ℕ) (i : ℕ) → D i → Through q i js → Through p i js
    walk_back [] i d h = a.ends i d ∙ h
    walk_back (j ∷ js) i d h =
        let e : follows p i j ≡ true = a.arcs i j d ∙ h.0 in
        (e, walk_back js j (a.closed i j d e) h.1)

  -- One letter, and none.
  single_in : (n a : ℕ) → 1 ≤ n → label n ≡ a → (w : List ℕ) → w ≡ a ∷ [] → Says (single n) w
  single_in (suc n) a l e w h = (suc n ∷ [], (eq-eqb (suc n) (suc n) refl, eq-eqb (suc n) (suc n) refl), ap (λ k. k ∷ []) e ∙ sym h)
  single_in zero a l e w h = absurd (omega arith)

  single_out : (n a : ℕ) → 1 ≤ n → label n ≡ a → (w : List ℕ) → Says (single n) w → w ≡ a ∷ []
  single_out n a l e w h = by h.0 h.1 h.2
    where
      by : (js : List ℕ) → Through (single n) 0 js → map label js ≡ w → w ≡ a ∷ []
      by [] g k = absurd (not_both false g refl)
      by (j ∷ []) g k = sym k ∙ ap (λ i. label i ∷ []) (eqb-true j n g.0) ∙ ap (λ b. b ∷ []) e
      by (zero ∷ (j ∷ js)) g k = let z = eqb-true 0 n g.0 in absurd (omega arith)
      by (suc i ∷ (j ∷ js)) g k = absurd (not_both false g.1.0 refl)

  pub single_words : (n a : ℕ) → 1 ≤ n → label n ≡ a → Exact (single n) (λ w. w ≡ a ∷ [])
  single_words n a l e w = (single_out n a l e w, single_in n a l e w)

  bare_in : (w : List ℕ) → w ≡ [] → Says (bare true) w
  bare_in w e = ([], refl, sym e)

  bare_out : (t : Bool) (w : List ℕ) → Says (bare t) w → (t ≡ true) × (w ≡ [])
  bare_out t w h = by h.0 h.1 h.2
    where
      by : (js : List ℕ) → Through (bare t) 0 js → map label js ≡ w → (t ≡ true) × (w ≡ [])
      by [] g k = (g, sym k)
      by (j ∷ js) g k = absurd (not_both false g.0 refl)

  pub empty_words : Exact (bare true) (λ w. w ≡ [])
  empty_words w = (λ h. (bare_out true w h).1, bare_in w)

  pub never_words : Exact (bare false) (λ w. ⊥)
  never_words w = (λ h. not_both false (bare_out false w h).0 refl, λ h. absurd h)

  -- A joining.
  module _ {n m k : ℕ} {p q : Positions} (a : Apart n m k p q) where
    joint_walk : (us vs : List ℕ) (i : ℕ) → i < m → Through p i us → Through q 0 vs → Through (joint p q) i (us ++ vs)
    joint_walk [] [] i l h g = joint_ends a i l ∙ and_both (ending p i) q.nullable h g
    joint_walk [] (j ∷ vs) i l h g = (
      joint_arcs a i j l ∙ or_right (follows p i j) (ending p i && q.first j) (and_both (ending p i) (q.first j) h g.0),
      walk_back (joint_back a) vs j (a.back.first j g.0).0 g.1,
    )
    joint_walk (j ∷ us) vs i l h g = (
      joint_arcs a i j l ∙ or_left (follows p i j) (ending p i && q.first j) h.0,
      joint_walk us vs j (goes_to a.front i j h.0).1 h.1 g,
    )

    -- a walk of a joining, cut where it leaves p
    pub record Cut (i : ℕ) (js : List ℕ) : Type 0 where
      pub left : List ℕ
      pub right : List ℕ
      pub whole : js ≡ left ++ right
      pub front : Through p i left
      pub back : Through q 0 right

    joint_cut : (js : List ℕ) (i : ℕ) → i < m → Through (joint p q) i js → Cut i js
    joint_cut [] i l h =
        let e : (ending p i && q.nullable) ≡ true = sym (joint_ends a i l) ∙ h in
        record { left = []; right = []; whole = refl; front = and_left (ending p i) q.nullable e; back = and_right (ending p i) q.nullable e }
    joint_cut (j ∷ js) i l h = by (or_either (follows p i j) (ending p i && q.first j) (sym (joint_arcs a i j l) ∙ h.0)) (λ d. joint_cut js j d h.1)
      where
        by : (follows p i j ≡ true) ⊎ ((ending p i && q.first j) ≡ true) → (j < m → Cut j js) → Cut i (j ∷ js)
        by (inl e) more =
            let x = more (goes_to a.front i j e).1 in
            record { left = j ∷ x.left; right = x.right; whole = ap (λ l. j ∷ l) x.whole; front = (e, x.front); back = x.back }
        by (inr e) more =
            let f : q.first j ≡ true = and_right (ending p i) (q.first j) e in
            record {
              left = [];
              right = j ∷ js;
              whole = refl;
              front = and_left (ending p i) (q.first j) e;
              back = (f, walk_over (joint_back a) js j (a.back.first j f).0 h.1);
            }

    begins : 0 < m
    begins = let z = a.one in let y = a.left in omega arith

    joint_in : (w u v : List ℕ) → w ≡ u ++ v → Says p u → Says q v → Says (joint p q) w
    joint_in w u v e h g =
        (h.0 ++ g.0, joint_walk h.0 g.0 0 begins h.1 g.1, map-append label h.0 g.0 ∙ rw (h.2, g.2) (sym e))

    pub joint_words : (P Q : List ℕ → Type 0) → Exact p P → Exact q Q → Exact (joint p q) (λ w. (u : List ℕ) × (v : List ℕ) × (w ≡ u ++ v) × P u × Q v)
    joint_words P Q f g w = (out, λ h. joint_in w h.0 h.1 h.2 ((f h.0).1 h.3) ((g h.1).1 h.4))
      where
        out : Says (joint p q) w → (u : List ℕ) × (v : List ℕ) × (w ≡ u ++ v) × P u × Q v
        out h =
            let x = joint_cut h.0 0 begins h.1 in (
              map label x.left,
              map label x.right,
              sym h.2 ∙ ap (map label) x.whole ∙ map-append label x.left x.right,
              (f (map label x.left)).0 (x.left, x.front, refl),
              (g (map label x.right)).0 (x.right, x.back, refl),
            )

    -- An alternation.
    choice_left : (js : List ℕ) → Through p 0 js → Through (choice p q) 0 js
    choice_left [] h = or_left p.nullable q.nullable h
    choice_left (j ∷ js) h =
        let z = a.front.first j h.0 in let o = a.one in
        (or_left (p.first j) (q.first j) h.0, walk_back (choice_front a) js j (omega arith) h.1)

    choice_right : (js : List ℕ) → Through q 0 js → Through (choice p q) 0 js
    choice_right [] h = or_right p.nullable q.nullable h
    choice_right (j ∷ js) h =
        (or_right (p.first j) (q.first j) h.0, walk_back (choice_back a) js j (a.back.first j h.0).0 h.1)

    choice_side : (js : List ℕ) → Through (choice p q) 0 js → Through p 0 js ⊎ Through q 0 js
    choice_side [] h = or_either p.nullable q.nullable h
    choice_side (j ∷ js) h = ⊎_map left right (or_either (p.first j) (q.first j) h.0)
      where
        left : p.first j ≡ true → Through p 0 (j ∷ js)
        left e =
            let z = a.front.first j e in let o = a.one in
            (e, walk_over (choice_front a) js j (omega arith) h.1)

        right : q.first j ≡ true → Through q 0 (j ∷ js)
        right e = (e, walk_over (choice_back a) js j (a.back.first j e).0 h.1)

    pub choice_words : (P Q : List ℕ → Type 0) → Exact p P → Exact q Q → Exact (choice p q) (λ w. P w ⊎ Q w)
    choice_words P Q f g w = (
      λ h. ⊎_map (λ x. (f w).0 (h.0, x, h.2)) (λ x. (g w).0 (h.0, x, h.2)) (choice_side h.0 h.1),
      ⊎_elim (λ x. let h = (f w).1 x in (h.0, choice_left h.0 h.1, h.2)) (λ x. let h = (g w).1 x in (h.0, choice_right h.0 h.1, h.2)),
    )

  -- An optional part, and a repeated one.
  module _ {n m : ℕ} {p : Positions} (one : 1 ≤ n) (x : Inside n m p) where
    perhaps_same : Agree (λ i. n ≤ i) (perhaps p) p
    perhaps_same = record { ends = ends; arcs = arcs; closed = λ i j d h. (goes_to (inside_perhaps x) i j h).0 }
      where
        ends : (i : ℕ) → n ≤ i → ending (perhaps p) i ≡ ending p i
        ends zero d = absurd (omega arith)
        ends (suc i) d = refl

        arcs : (i j : ℕ) → n ≤ i → follows (perhaps p) i j ≡ follows p i j
        arcs zero j d = refl
        arcs (suc i) j d = refl

    perhaps_walk : (js : List ℕ) → Through p 0 js → Through (perhaps p) 0 js
    perhaps_walk [] h = refl
    perhaps_walk (j ∷ js) h = (h.0, walk_back perhaps_same js j (x.first j h.0).0 h.1)

    perhaps_cut : (js : List ℕ) → Through (perhaps p) 0 js → (js ≡ []) ⊎ Through p 0 js
    perhaps_cut [] h = inl refl
    perhaps_cut (j ∷ js) h = inr (h.0, walk_over perhaps_same js j (x.first j h.0).0 h.1)

    pub perhaps_words : (P : List ℕ → Type 0) → Exact p P → Exact (perhaps p) (λ w. (w ≡ []) ⊎ P w)
    perhaps_words P f w = (
      λ h. ⊎_map (λ e. sym h.2 ∙ ap (map label) e) (λ g. (f w).0 (h.0, g, h.2)) (perhaps_cut h.0 h.1),
      ⊎_elim (λ e. ([], refl, sym e)) (λ g. let h = (f w).1 g in (h.0, perhaps_walk h.0 h.1, h.2)),
    )

  module _ {n m : ℕ} {p : Positions} (one : 1 ≤ n) (x : Inside n m p) where
    again_walk : (us vs : List ℕ) (i : ℕ) → Through p i us → Through (perhaps (again p)) 0 vs → Through (again p) i (us ++ vs)
    again_walk [] [] i h g = again_ends p i ∙ h
    again_walk [] (j ∷ vs) i h g = (
      again_arcs p i j ∙ or_right (follows p i j) (ending p i && p.first j) (and_both (ending p i) (p.first j) h g.0),
      walk_over (perhaps_same one (inside_again x)) vs j (x.first j g.0).0 g.1,
    )
    again_walk (j ∷ us) vs i h g = (again_arcs p i j ∙ or_left (follows p i j) (ending p i && p.first j) h.0, again_walk us vs j h.1 g)

    again_more : (w u v : List ℕ) → w ≡ u ++ v → Says p u → Says (perhaps (again p)) v → Says (again p) w
    again_more w u v e h g = (h.0 ++ g.0, again_walk h.0 g.0 0 h.1 g.1, map-append label h.0 g.0 ∙ rw (h.2, g.2) (sym e))

    module _ (P : List ℕ → Type 0) (f : Exact p P) where
      again_in : (k : ℕ) (w : List ℕ) → Joined P (suc k) w → Says (again p) w
      again_in zero w h = again_more w h.0 h.1 h.2 ((f h.0).1 h.3) ([], refl, sym h.4)
      again_in (suc k) w h =
          let g = again_in k h.1 h.4 in
          again_more w h.0 h.1 h.2 ((f h.0).1 h.3) (g.0, perhaps_walk one (inside_again x) g.0 g.1, g.2)

      -- a walk of a repeated part, cut where the part first begins again: from there it spells words of the part joined
      pub record Round (i : ℕ) (js : List ℕ) : Type 0 where
        pub left : List ℕ
        pub right : List ℕ
        pub whole : js ≡ left ++ right
        pub front : Through p i left
        pub rounds : ℕ
        pub back : Joined P rounds (map label right)

      again_cut : (js : List ℕ) (i : ℕ) → Through (again p) i js → Round i js
      again_cut [] i h = record { left = []; right = []; whole = refl; front = sym (again_ends p i) ∙ h; rounds = 0; back = refl }
      again_cut (j ∷ js) i h = by (or_either (follows p i j) (ending p i && p.first j) (sym (again_arcs p i j) ∙ h.0)) (again_cut js j h.1)
        where
          by : (follows p i j ≡ true) ⊎ ((ending p i && p.first j) ≡ true) → Round j js → Round i (j ∷ js)
          by (inl e) y = record { left = j ∷ y.left; right = y.right; whole = ap (λ l. j ∷ l) y.whole; front = (e, y.front); rounds = y.rounds; back = y.back }
          by (inr e) y = record {
            left = [];
            right = j ∷ js;
            whole = refl;
            front = and_left (ending p i) (p.first j) e;
            rounds = suc y.rounds;
            back = (
              map label (j ∷ y.left),
              map label y.right,
              ap (λ l. label j ∷ map label l) y.whole ∙ ap (λ l. label j ∷ l) (map-append label y.left y.right),
              (f (map label (j ∷ y.left))).0 (j ∷ y.left, (and_right (ending p i) (p.first j) e, y.front), refl),
              y.back,
            );
          }

      again_out : (w : List ℕ) → Says (again p) w → (k : ℕ) × Joined P (suc k) w
      again_out w h =
          let y = again_cut h.0 0 h.1 in (
            y.rounds,
            (
              map label y.left,
              map label y.right,
              sym h.2 ∙ ap (map label) y.whole ∙ map-append label y.left y.right,
              (f (map label y.left)).0 (y.left, y.front, refl),
              y.back,
            ),
          )

      pub again_words : Exact (again p) (λ w. (k : ℕ) × Joined P (suc k) w)
      again_words w = (again_out w, λ h. again_in h.0 w h.1)
