-- What one iteration of this crate's loop does, over plain lists.
use Rattle.std.specs.Prelude.{ℕ, ◌+◌, ◌<◌, ◌≤◌, ◌≡◌, refl, Bool, true, false, ◌||◌, List, [], ◌∷◌, ◌++◌, length, get_or, drop, set, eqb}
use Rattle.std.proofs.Common.{ap, ◌∙◌, arith, eq-eqb, ne_eqb}
use Rattle.std.proofs.Math.Bool.{or-true}
use Rattle.lists.proofs.EachLaws.{drop_here, drop_all}
use Rattle.lists.specs.Stored.{Stored}
use Rattle.ctc.proofs.CollapseLaws.{after}
use Rattle.ctc_collapse.specs.Added.{added}
use Rattle.ctc.specs.Collapse.{omitting}

pub after_added : (a x : ℕ) (p : List ℕ) → after a (x ∷ p) ≡ added a x ++ after x p
unfolding after
after_added a x p = by (eqb x a || eqb x 0)
  where
    by : (t : Bool) → omitting t x (after x p) ≡ omitting t x [] ++ after x p
    by true = refl
    by false = refl

-- A label of the path is left out, or stored in the word.

module _ (a x n : ℕ) (word : List ℕ) where
  pub added_same : x ≡ a → Stored (added a x) n word word n
  added_same e = rw (eq-eqb x a e) (record { next = omega arith; memory = refl })

  pub added_blank : x ≡ 0 → Stored (added a x) n word word n
  added_blank e = rw (eq-eqb x 0 e, or-true) (record { next = omega arith; memory = refl })

  module _ (differs : x ≡ a → ⊥) (letter : x ≡ 0 → ⊥) where
    pub added_new : Stored (added a x) n word (set word n x) (n + 1)
    added_new = rw (ne_eqb x a differs, ne_eqb x 0 letter) (record { next = refl; memory = refl })

    pub added_room : n + length (added a x) ≤ length word → n < length word
    added_room h =
        let e : added a x ≡ x ∷ [] = rw (ne_eqb x a differs, ne_eqb x 0 letter) in
        let l = ap length e in
        omega arith

-- What is still to be written at index i.

pub after_step : (a : ℕ) (p : List ℕ) (i : ℕ) → i < length p → after a (drop i p) ≡ added a (get_or p i 0) ++ after (get_or p i 0) (drop (i + 1) p)
after_step a p i l = ap (after a) (drop_here 0 p i l) ∙ after_added a (get_or p i 0) (drop (i + 1) p)

pub after_end : (a : ℕ) (p : List ℕ) (i : ℕ) → length p ≤ i → after a (drop i p) ≡ []
unfolding after
after_end a p i l = ap (after a) (drop_all p i l)
