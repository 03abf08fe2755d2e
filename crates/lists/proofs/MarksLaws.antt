-- Laws of marked places: no place, one place, one set of places after another, and the iterations of a loop.
use Rattle.std.specs.Prelude.{ℕ, zero, suc, ◌+◌, ◌<◌, ◌≤◌, ◌≡◌, refl, Bool, true, false, ◌⊎◌, List, length, get_or, set, replicate}
use Rattle.std.proofs.Common.{sym, ap, subst, ◌∙◌, inl, inr, arith, length-set, get_or-set_same, get_or-set_other}
use Rattle.lists.proofs.OrderLaws.{eq_or_ne}
use Rattle.lists.specs.Marks.{Has, Marks, OnlyAt, Iterations}

pub has_none : (n k : ℕ) → Has (replicate n false) k → ⊥
has_none zero k h = let z : ◌≡◌ {A = ℕ} 0 1 = cc in omega arith
has_none (suc n) zero h = let z : ◌≡◌ {A = ℕ} 0 1 = cc in omega arith
has_none (suc n) (suc k) h = has_none n k h

pub marks_none : (P : ℕ → Type 0) (s : List Bool) → ((k : ℕ) → P k → ⊥) → Marks P s s
marks_none P s f = record { size = refl; kept = λ k h. h; marked = λ k p. absurd (f k p); only = λ k h. inl h }

pub marks_one : (j : ℕ) (s : List Bool) → j < length s → Marks (λ k. k ≡ j) s (set s j true)
marks_one j s l =
    record {
      size = length-set s j true;
      kept = λ k h. kept k (eq_or_ne k j) h;
      marked = λ k e. ap (λ n. get_or (set s j true) n false) e ∙ get_or-set_same s j true false l;
      only = λ k h. only k (eq_or_ne k j) h;
    }
  where
    kept : (k : ℕ) → (k ≡ j) ⊎ (k ≡ j → ⊥) → Has s k → Has (set s j true) k
    kept k (inl e) h = ap (λ n. get_or (set s j true) n false) e ∙ get_or-set_same s j true false l
    kept k (inr n) h = get_or-set_other s j k true false n ∙ h

    only : (k : ℕ) → (k ≡ j) ⊎ (k ≡ j → ⊥) → Has (set s j true) k → Has s k ⊎ (k ≡ j)
    only k (inl e) h = inr e
    only k (inr n) h = inl (sym (get_or-set_other s j k true false n) ∙ h)

-- the same places by another name
pub marks_same :
    (P Q : ℕ → Type 0) (s t : List Bool) → ((k : ℕ) → P k → Q k) → ((k : ℕ) → Q k → P k) → Marks P s t → Marks Q s t
marks_same P Q s t there back m =
    record { size = m.size; kept = m.kept; marked = λ k q. m.marked k (back k q); only = λ k h. by k (m.only k h) }
  where
    by : (k : ℕ) → Has s k ⊎ P k → Has s k ⊎ Q k
    by k (inl h) = inl h
    by k (inr p) = inr (there k p)

pub marks_then : (P Q : ℕ → Type 0) (s t u : List Bool) → Marks P s t → Marks Q t u → Marks (λ k. P k ⊎ Q k) s u
marks_then P Q s t u m n =
    record {
      size = n.size ∙ m.size;
      kept = λ k h. n.kept k (m.kept k h);
      marked = λ k p. marked k p;
      only = λ k h. only k (n.only k h);
    }
  where
    marked : (k : ℕ) → P k ⊎ Q k → Has u k
    marked k (inl p) = n.kept k (m.marked k p)
    marked k (inr q) = n.marked k q

    first : (k : ℕ) → Has s k ⊎ P k → Has s k ⊎ (P k ⊎ Q k)
    first k (inl h) = inl h
    first k (inr p) = inr (inl p)

    only : (k : ℕ) → Has t k ⊎ Q k → Has s k ⊎ (P k ⊎ Q k)
    only k (inl h) = first k (m.only k h)
    only k (inr q) = inr (inr q)

module _ (Q : ℕ → ℕ → Type 0) (m : ℕ) where
  pub iterations_none : (s : List Bool) → Marks (Iterations Q m m) s s
  iterations_none s = marks_none (Iterations Q m m) s (λ k t. let l = t.1 in let h = t.2 in omega arith)

  pub iterations_more : (n : ℕ) (s t u : List Bool) → m ≤ n → Marks (Iterations Q m n) s t → Marks (Q n) t u → Marks (Iterations Q m (n + 1)) s u
  iterations_more n s t u l a b = marks_same (λ k. Iterations Q m n k ⊎ Q n k) (Iterations Q m (n + 1)) s u there back (marks_then (Iterations Q m n) (Q n) s t u a b)
    where
      there : (k : ℕ) → Iterations Q m n k ⊎ Q n k → Iterations Q m (n + 1) k
      there k (inl q) = (q.0, q.1, let h = q.2 in omega arith, q.3)
      there k (inr q) = (n, l, omega arith, q)

      back : (k : ℕ) → Iterations Q m (n + 1) k → Iterations Q m n k ⊎ Q n k
      back k (i, low, high, q) = by (eq_or_ne i n)
        where
          by : (i ≡ n) ⊎ (i ≡ n → ⊥) → Iterations Q m n k ⊎ Q n k
          by (inl e) = inr (subst (λ j. Q j k) e q)
          by (inr d) = inl (i, low, omega arith, q)

-- A loop that in each iteration marks the place of its own index, or none.
module _ (Q : ℕ → Type 0) where
  pub only_marked : (i : ℕ) (s : List Bool) → i < length s → Q i → Marks (OnlyAt Q i) s (set s i true)
  only_marked i s l q = marks_same (λ k. k ≡ i) (OnlyAt Q i) s (set s i true) (λ k e. (e, q)) (λ k p. p.0) (marks_one i s l)

  pub only_not : (i : ℕ) (s : List Bool) → (Q i → ⊥) → Marks (OnlyAt Q i) s s
  only_not i s d = marks_none (OnlyAt Q i) s (λ k p. d p.1)

  -- the iterations from m on, below n, have marked the places that R names
  pub only_all :
      (R : ℕ → Type 0) (m n : ℕ) (s t : List Bool) → ((k : ℕ) → m ≤ k → k < n → Q k → R k) → ((k : ℕ) → R k → (m ≤ k) × (k < n) × Q k)
      → Marks (Iterations (OnlyAt Q) m n) s t → Marks R s t
  only_all R m n s t there back = marks_same (Iterations (OnlyAt Q) m n) R s t from to
    where
      from : (k : ℕ) → Iterations (OnlyAt Q) m n k → R k
      from k (i, low, high, (e, q)) = subst R (sym e) (there i low high q)

      to : (k : ℕ) → R k → Iterations (OnlyAt Q) m n k
      to k r = let b = back k r in (k, b.0, b.1, (refl, b.2))
