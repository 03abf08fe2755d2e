-- Which numbers the letters of an opened expression have. Two parts share no number, so it is known what a joining and an alternation do at
-- a letter of each part.
use Rattle.std.specs.Prelude.{ℕ, zero, suc, ◌+◌, ◌≤◌, ◌<◌, ◌≡◌, refl, Bool, true, false, ◌&&◌, ◌||◌}
use Rattle.std.proofs.Common.{sym, ◌∙◌, ⊎_elim, arith, eqb-true}
use Rattle.std.proofs.Math.Bool.{or-false, and-false, and_comm}
use Rattle.lists.proofs.OrderLaws.{not_both, never_true, and_left, and_right, or_either}
use Rattle.positions.specs.Numbered.{Positions, bare, single, joint, choice, perhaps, again, follows, ending}

-- each letter is one of n to m - 1
pub record Inside (n m : ℕ) (p : Positions) : Type 0 where
  pub first : (i : ℕ) → p.first i ≡ true → (n ≤ i) × (i < m)
  pub last : (i : ℕ) → p.last i ≡ true → (n ≤ i) × (i < m)
  pub source : (i j : ℕ) → p.follow i j ≡ true → (n ≤ i) × (i < m)
  pub target : (i j : ℕ) → p.follow i j ≡ true → (n ≤ j) × (j < m)

-- p and q agree on the states in D, which no arc leaves: so they have the same walks from there.
pub record Agree (D : ℕ → Type 0) (p q : Positions) : Type 0 where
  pub ends : (i : ℕ) → D i → ending p i ≡ ending q i
  pub arcs : (i j : ℕ) → D i → follows p i j ≡ follows q i j
  pub closed : (i j : ℕ) → D i → follows p i j ≡ true → D j

-- where an arc leads
pub goes_to : {n m : ℕ} {p : Positions} → Inside n m p → (i j : ℕ) → follows p i j ≡ true → (n ≤ j) × (j < m)
goes_to x zero j h = x.first j h
goes_to x (suc i) j h = x.target (suc i) j h

-- The numbers of the letters, shape by shape.
pub inside_bare : (n : ℕ) (e : Bool) → Inside n n (bare e)
inside_bare n e = record {
  first = λ i h. absurd (not_both false h refl);
  last = λ i h. absurd (not_both false h refl);
  source = λ i j h. absurd (not_both false h refl);
  target = λ i j h. absurd (not_both false h refl);
}

pub inside_single : (n : ℕ) → Inside n (n + 1) (single n)
inside_single n = record {
  first = λ i h. let z = eqb-true i n h in omega arith;
  last = λ i h. let z = eqb-true i n h in omega arith;
  source = λ i j h. absurd (not_both false h refl);
  target = λ i j h. absurd (not_both false h refl);
}

pub inside_perhaps : {n m : ℕ} {p : Positions} → Inside n m p → Inside n m (perhaps p)
inside_perhaps x = record { first = x.first; last = x.last; source = x.source; target = x.target }

pub inside_again : {n m : ℕ} {p : Positions} → Inside n m p → Inside n m (again p)
inside_again {p = p} x = record {
  first = x.first;
  last = x.last;
  source = λ i j h. ⊎_elim (x.source i j) (λ e. x.last i (and_left (p.last i) (p.first j) e)) (or_either (p.follow i j) (p.last i && p.first j) h);
  target = λ i j h. ⊎_elim (x.target i j) (λ e. x.first j (and_right (p.last i) (p.first j) e)) (or_either (p.follow i j) (p.last i && p.first j) h);
}

-- From each state a repeated part goes on within itself, or from where it may end to a first letter.
pub again_ends : (p : Positions) (i : ℕ) → ending (again p) i ≡ ending p i
again_ends p zero = refl
again_ends p (suc i) = refl

absorbed : (a b : Bool) → a ≡ (a || b && a)
absorbed true b = refl
absorbed false b = sym (and-false b)

pub again_arcs : (p : Positions) (i j : ℕ) → follows (again p) i j ≡ (follows p i j || ending p i && p.first j)
again_arcs p zero j = absorbed (p.first j) p.nullable
again_arcs p (suc i) j = refl

-- p has the letters n to m - 1, and q those from m to k - 1.
pub record Apart (n m k : ℕ) (p q : Positions) : Type 0 where
  pub one : 1 ≤ n
  pub left : n ≤ m
  pub right : m ≤ k
  pub front : Inside n m p
  pub back : Inside m k q

module _ {n m k : ℕ} {p q : Positions} (a : Apart n m k p q) where
  low : (i : ℕ) → (n ≤ i) × (i < m) → (n ≤ i) × (i < k)
  low i h = let z = a.right in omega arith

  high : (i : ℕ) → (m ≤ i) × (i < k) → (n ≤ i) × (i < k)
  high i h = let z = a.left in omega arith

  some : (s t : Bool) (i : ℕ) → (s ≡ true → (n ≤ i) × (i < m)) → (t ≡ true → (m ≤ i) × (i < k)) → (s || t) ≡ true → (n ≤ i) × (i < k)
  some s t i f g h = ⊎_elim (λ e. low i (f e)) (λ e. high i (g e)) (or_either s t h)

  pub inside_choice : Inside n k (choice p q)
  inside_choice = record {
    first = λ i. some (p.first i) (q.first i) i (a.front.first i) (a.back.first i);
    last = λ i. some (p.last i) (q.last i) i (a.front.last i) (a.back.last i);
    source = λ i j. some (p.follow i j) (q.follow i j) i (a.front.source i j) (a.back.source i j);
    target = λ i j. some (p.follow i j) (q.follow i j) j (a.front.target i j) (a.back.target i j);
  }

  pub inside_joint : Inside n k (joint p q)
  inside_joint = record {
    first = λ i. some (p.first i) (p.nullable && q.first i) i (a.front.first i) (λ e. a.back.first i (and_right p.nullable (q.first i) e));
    last = λ i h. ⊎_elim (λ e. high i (a.back.last i e)) (λ e. low i (a.front.last i (and_right q.nullable (p.last i) e)))
        (or_either (q.last i) (q.nullable && p.last i) h);
    source = λ i j h. ⊎_elim (inside_choice.source i j) (λ e. low i (a.front.last i (and_left (p.last i) (q.first j) e)))
        (or_either (p.follow i j || q.follow i j) (p.last i && q.first j) h);
    target = λ i j h. ⊎_elim (inside_choice.target i j) (λ e. high j (a.back.first j (and_right (p.last i) (q.first j) e)))
        (or_either (p.follow i j || q.follow i j) (p.last i && q.first j) h);
  }

  -- p does not end or go on at a letter of q, nor q at one of p
  above_zero : m ≤ 0 → ⊥
  above_zero d = let z = a.one in let y = a.left in omega arith

  no_last : (i : ℕ) → m ≤ i → p.last i ≡ false
  no_last i d = never_true (p.last i) (λ e. let z = a.front.last i e in omega arith)

  no_arc : (i j : ℕ) → m ≤ i → p.follow i j ≡ false
  no_arc i j d = never_true (p.follow i j) (λ e. let z = a.front.source i j e in omega arith)

  last_not : (i : ℕ) → i < m → q.last i ≡ false
  last_not i d = never_true (q.last i) (λ e. let z = a.back.last i e in omega arith)

  arc_not : (i j : ℕ) → i < m → q.follow i j ≡ false
  arc_not i j d = never_true (q.follow i j) (λ e. let z = a.back.source i j e in omega arith)

  -- From a state that is no letter of q, a joining goes on in p, or from where p may end into q.
  pub joint_ends : (i : ℕ) → i < m → ending (joint p q) i ≡ (ending p i && q.nullable)
  joint_ends zero l = refl
  joint_ends (suc i) l = rw (last_not (suc i) l) (and_comm q.nullable (p.last (suc i)))

  pub joint_arcs : (i j : ℕ) → i < m → follows (joint p q) i j ≡ (follows p i j || ending p i && q.first j)
  joint_arcs zero j l = refl
  joint_arcs (suc i) j l = rw (arc_not (suc i) j l, or-false (p.follow (suc i) j))

  -- from a letter of q it goes on in q
  pub joint_back : Agree (λ i. m ≤ i) (joint p q) q
  joint_back = record { ends = ends; arcs = arcs; closed = λ i j d h. (goes_to a.back i j (sym (arcs i j d) ∙ h)).0 }
    where
      ends : (i : ℕ) → m ≤ i → ending (joint p q) i ≡ ending q i
      ends zero d = absurd (above_zero d)
      ends (suc i) d = rw (no_last (suc i) d, and-false q.nullable, or-false (q.last (suc i)))

      arcs : (i j : ℕ) → m ≤ i → follows (joint p q) i j ≡ follows q i j
      arcs zero j d = absurd (above_zero d)
      arcs (suc i) j d = rw (no_arc (suc i) j d, no_last (suc i) d, or-false (q.follow (suc i) j))

  -- an alternation goes on in the part that the letter belongs to
  pub choice_front : Agree (λ i. (1 ≤ i) × (i < m)) (choice p q) p
  choice_front = record { ends = ends; arcs = arcs; closed = λ i j d h. let z = goes_to a.front i j (sym (arcs i j d) ∙ h) in let o = a.one in omega arith }
    where
      ends : (i : ℕ) → (1 ≤ i) × (i < m) → ending (choice p q) i ≡ ending p i
      ends zero d = absurd (omega arith)
      ends (suc i) d = rw (last_not (suc i) d.1, or-false (p.last (suc i)))

      arcs : (i j : ℕ) → (1 ≤ i) × (i < m) → follows (choice p q) i j ≡ follows p i j
      arcs zero j d = absurd (omega arith)
      arcs (suc i) j d = rw (arc_not (suc i) j d.1, or-false (p.follow (suc i) j))

  pub choice_back : Agree (λ i. m ≤ i) (choice p q) q
  choice_back = record { ends = ends; arcs = arcs; closed = λ i j d h. (goes_to a.back i j (sym (arcs i j d) ∙ h)).0 }
    where
      ends : (i : ℕ) → m ≤ i → ending (choice p q) i ≡ ending q i
      ends zero d = absurd (above_zero d)
      ends (suc i) d = rw (no_last (suc i) d)

      arcs : (i j : ℕ) → m ≤ i → follows (choice p q) i j ≡ follows q i j
      arcs zero j d = absurd (above_zero d)
      arcs (suc i) j d = rw (no_arc (suc i) j d)
