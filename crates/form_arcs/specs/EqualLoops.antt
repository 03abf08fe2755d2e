-- The letters that share their arcs, one iteration of a loop at a time.
use Rattle.std.specs.Prelude.{ℕ, ◌+◌, ◌<◌, ◌≡◌, refl, Bool, true, false, ◌⊎◌, List, length, get_or, set, replicate}
use Rattle.std.proofs.Common.{sym, subst, inl, inr, arith}
use Rattle.lists.proofs.OrderLaws.{eq_or_ne}
use Rattle.lists.specs.Marks.{Marks, Iterations}
use Rattle.lists.proofs.MarksLaws.{marks_none, marks_one, marks_same}
use Rattle.automaton.specs.Form.{letters_of, target}
use Rattle.form_arcs.specs.Equal.{SameTargets, SameArcs, Shares, SharesAt, EqualArcs}

-- one more arc word with the same target
pub targets_more : (f : List ℕ) (a b k : ℕ) → SameTargets f a b k → target (get_or f (a + k) 0) ≡ target (get_or f (b + k) 0) → SameTargets f a b (k + 1)
targets_more f a b k old new n h = by (eq_or_ne n k)
  where
    by : (n ≡ k) ⊎ (n ≡ k → ⊥) → target (get_or f (a + n) 0) ≡ target (get_or f (b + n) 0)
    by (inl e) = subst (λ m. target (get_or f (a + m) 0) ≡ target (get_or f (b + m) 0)) (sym e) new
    by (inr d) = old n (omega arith)

-- Letter i, marked or not.
module _ (f s : List ℕ) (i : ℕ) (same : List Bool) where
  pub equal_marked : i < length same → Shares f s i → Marks (SharesAt f s i) same (set same i true)
  equal_marked l q = marks_same (λ k. k ≡ i) (SharesAt f s i) same (set same i true) (λ k e. (e, q)) (λ k p. p.0) (marks_one i same l)

  pub equal_not : (SameArcs f s i → ⊥) → Marks (SharesAt f s i) same same
  equal_not d = marks_none (SharesAt f s i) same (λ k p. d p.1.2)

-- all letters
pub equal_all : (f s : List ℕ) (n : ℕ) (same : List Bool) → letters_of f < n → Marks (Iterations (SharesAt f s) 2 n) (replicate 128 false) same → EqualArcs f s same
equal_all f s n same end =
    marks_same (Iterations (SharesAt f s) 2 n) (Shares f s) (replicate 128 false) same (λ k t. subst (Shares f s) (sym t.3.0) t.3.1)
    (λ k q. (k, q.0, (let h = q.1 in omega arith), (refl, q)))
