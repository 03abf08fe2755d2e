-- Laws of collapse: one label at a time, which labels a word has, its length.
use Rattle.std.specs.Prelude.{ℕ, suc, ◌<◌, ◌≤◌, ◌≡◌, refl, Bool, true, false, ◌||◌, List, [], ◌∷◌, length, eqb}
use Rattle.std.proofs.Common.{sym, ap, ◌∙◌, arith, eqb-true, eq-eqb, ne_eqb}
use Rattle.std.proofs.Math.Bool.{or-true}
use Rattle.std.proofs.lemmas.Bool.{eqb-false}
use Rattle.lists.specs.Each.{Each}
use Rattle.ctc.specs.Collapse.{omitting, merge, without_blanks, collapse}

-- Collapse from the left, one label at a time: what a path adds to the word after label a.
unfoldable pub after : ℕ → List ℕ → List ℕ
after a [] = []
after a (x ∷ p) = omitting (eqb x a || eqb x 0) x (after x p)

pub after_same : (a x : ℕ) (p : List ℕ) → x ≡ a → after a (x ∷ p) ≡ after x p
unfolding after
after_same a x p e = rw (eq-eqb x a e)

pub after_blank : (a x : ℕ) (p : List ℕ) → x ≡ 0 → after a (x ∷ p) ≡ after x p
unfolding after
after_blank a x p e = rw (eq-eqb x 0 e, or-true)

pub after_new : (a x : ℕ) (p : List ℕ) → (x ≡ a → ⊥) → (x ≡ 0 → ⊥) → after a (x ∷ p) ≡ x ∷ after x p
unfolding after
after_new a x p n z = rw (ne_eqb x a n, ne_eqb x 0 z)

-- a first label is kept if it is no blank
merge_after : (a : ℕ) (p : List ℕ) → without_blanks (merge (a ∷ p)) ≡ omitting (eqb a 0) a (after a p)
unfolding merge without_blanks after
merge_after a [] = refl
merge_after a (x ∷ p) = by (eqb a x) refl (merge_after x p)
  where
    by :
        (t : Bool) → eqb a x ≡ t → without_blanks (merge (x ∷ p)) ≡ omitting (eqb x 0) x (after x p)
        → without_blanks (omitting t a (merge (x ∷ p))) ≡ omitting (eqb a 0) a (after a (x ∷ p))
    by true e h =
        let q : x ≡ a = sym (eqb-true a x e) in
        rw (after_same a x p q) (h ∙ ap (λ y. omitting (eqb y 0) y (after x p)) q)
    by false e h = rw (ne_eqb x a (λ q. eqb-false a x e (sym q))) (ap (omitting (eqb a 0) a) h)

pub collapse_after : (p : List ℕ) → collapse p ≡ after 0 p
unfolding collapse merge without_blanks after
collapse_after [] = refl
collapse_after (x ∷ p) = by (eqb x 0) refl (merge_after x p)
  where
    by : (t : Bool) → eqb x 0 ≡ t → without_blanks (merge (x ∷ p)) ≡ omitting t x (after x p) → without_blanks (merge (x ∷ p)) ≡ omitting (t || t) x (after x p)
    by true e h = h
    by false e h = h

-- What is true of each label of a path is true of each label of its collapse.
each_omitting : (P : ℕ → Type 0) (t : Bool) (x : ℕ) (p : List ℕ) → P x → Each P p → Each P (omitting t x p)
each_omitting P true x p h g = g
each_omitting P false x p h g = (h, g)

pub after_each : (P : ℕ → Type 0) (a : ℕ) (p : List ℕ) → Each P p → Each P (after a p)
unfolding after
after_each P a [] h = tt
after_each P a (x ∷ p) h = each_omitting P (eqb x a || eqb x 0) x (after x p) h.0 (after_each P x p h.1)

pub collapse_each : (P : ℕ → Type 0) (p : List ℕ) → Each P p → Each P (collapse p)
collapse_each P p h = rw (collapse_after p) (after_each P 0 p h)

-- no blank is left
after_letters : (a : ℕ) (p : List ℕ) → Each (λ x. 0 < x) (after a p)
unfolding after
after_letters a [] = tt
after_letters a (x ∷ p) = by (eqb x a) (eqb x 0) refl (after_letters x p)
  where
    by : (s t : Bool) → eqb x 0 ≡ t → Each (λ x. 0 < x) (after x p) → Each (λ x. 0 < x) (omitting (s || t) x (after x p))
    by true t e h = h
    by false true e h = h
    by false false e h = (let n = eqb-false x 0 e in omega arith, h)

pub collapse_letters : (p : List ℕ) → Each (λ x. 0 < x) (collapse p)
collapse_letters p = rw (collapse_after p) (after_letters 0 p)

after_shorter : (a : ℕ) (p : List ℕ) → length (after a p) ≤ length p
unfolding after
after_shorter a [] = omega arith
after_shorter a (x ∷ p) = by (eqb x a || eqb x 0) (after_shorter x p)
  where
    by : (t : Bool) → length (after x p) ≤ length p → length (omitting t x (after x p)) ≤ suc (length p)
    by true h = omega arith
    by false h = omega arith

pub collapse_shorter : (p : List ℕ) → length (collapse p) ≤ length p
collapse_shorter p = rw (collapse_after p) (after_shorter 0 p)
