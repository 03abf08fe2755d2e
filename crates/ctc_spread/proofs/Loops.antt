-- What one iteration of each loop of this crate does, over plain lists.
use Rattle.std.specs.Prelude.{ℕ, ◌+◌, ◌<◌, ◌≤◌, ◌≡◌, refl, Bool, true, false, cond, List, [], ◌∷◌, ◌++◌, length, get_or, drop, set, eqb, count_by, zip}
use Rattle.std.proofs.Common.{sym, ap, ◌∙◌, add-one, arith, length-drop, eq-eqb, ne_eqb}
use Rattle.std.proofs.lemmas.List.Sums.{sum_by-cons}
use Rattle.lists.proofs.EachLaws.{drop_here, drop_all}
use Rattle.lists.specs.Stored.{Stored}
use Rattle.ctc.specs.Spread.{pairs, parted}
use Rattle.ctc.proofs.SpreadLaws.{spread_after}
use Rattle.ctc_spread.specs.Spaced.{spaced}

pub spread_spaced : (a x : ℕ) (w : List ℕ) → spread_after a (x ∷ w) ≡ spaced a x ++ spread_after x w
unfolding spread_after
spread_spaced a x w = by (eqb a x)
  where
    by : (t : Bool) → parted t (x ∷ spread_after x w) ≡ parted t (x ∷ []) ++ spread_after x w
    by true = refl
    by false = refl

-- A letter of the word is stored after a blank, or alone.

module _ (a x n : ℕ) (path : List ℕ) where
  pub spaced_same : a ≡ x → Stored (spaced a x) n path (set (set path n 0) (n + 1) x) (n + 2)
  spaced_same e = rw (eq-eqb a x e, add-one n) (record { next = refl; memory = refl })

  pub spaced_other : (a ≡ x → ⊥) → Stored (spaced a x) n path (set path n x) (n + 1)
  spaced_other d = rw (ne_eqb a x d) (record { next = refl; memory = refl })

  pub room_same : a ≡ x → n + length (spaced a x) ≤ length path → n + 1 < length path
  room_same e h = let q : spaced a x ≡ 0 ∷ (x ∷ []) = rw (eq-eqb a x e) in let l = ap length q in omega arith

  pub room_other : (a ≡ x → ⊥) → n + length (spaced a x) ≤ length path → n < length path
  room_other d h = let q : spaced a x ≡ x ∷ [] = rw (ne_eqb a x d) in let l = ap length q in omega arith

-- What is still to be written at index i.

pub spread_step :
    (a : ℕ) (w : List ℕ) (i : ℕ) → i < length w → spread_after a (drop i w) ≡ spaced a (get_or w i 0) ++ spread_after (get_or w i 0) (drop (i + 1) w)
spread_step a w i l = ap (spread_after a) (drop_here 0 w i l) ∙ spread_spaced a (get_or w i 0) (drop (i + 1) w)

pub spread_end : (a : ℕ) (w : List ℕ) (i : ℕ) → length w ≤ i → spread_after a (drop i w) ≡ []
unfolding spread_after
spread_end a w i l = ap (spread_after a) (drop_all w i l)

-- The pair at index i counts as one or as nothing.
pub at_most_one : (x y : ℕ) → cond (eqb x y) 1 0 ≤ 1
at_most_one x y = by (eqb x y)
  where
    by : (t : Bool) → cond t 1 0 ≤ 1
    by true = omega arith
    by false = omega arith

pub pairs_step :
    (w : List ℕ) (i : ℕ) → i + 1 < length w → pairs (drop i w) ≡ cond (eqb (get_or w i 0) (get_or w (i + 1) 0)) 1 0 + pairs (drop (i + 1) w)
unfolding pairs
pairs_step w i l =
    ap pairs (drop_here 0 w i (omega arith) ∙ ap (λ q. get_or w i 0 ∷ q) next)
    ∙ ap (λ q. cond (eqb (get_or w i 0) (get_or w (i + 1) 0)) 1 0 + pairs q) (sym next)
  where
    next : drop (i + 1) w ≡ get_or w (i + 1) 0 ∷ drop (i + 1 + 1) w
    next = drop_here 0 w (i + 1) l

-- fewer than two labels have no pair
few_pairs : (w : List ℕ) → length w ≤ 1 → pairs w ≡ 0
unfolding pairs
few_pairs [] l = refl
few_pairs (x ∷ []) l = refl
few_pairs (x ∷ (y ∷ w)) l = absurd (omega arith)

pub pairs_end : (w : List ℕ) (i : ℕ) → length w ≤ i + 1 → pairs (drop i w) ≡ 0
pairs_end w i l = few_pairs (drop i w) (rw (length-drop i w) (omega arith))

pub few_pairs_in : (w : List ℕ) → pairs w ≤ length w
unfolding pairs
few_pairs_in [] = omega arith
few_pairs_in (x ∷ []) = omega arith
few_pairs_in (x ∷ (y ∷ w)) = let h = few_pairs_in (y ∷ w) in let b = at_most_one x y in omega arith

-- each pair, an element and the one after it, counted
pub pairs_counted : (w : List ℕ) → pairs w ≡ count_by (λ p. eqb p.0 p.1) (zip w (drop 1 w))
unfolding pairs
pairs_counted [] = refl
pairs_counted (x ∷ []) = refl
pairs_counted (x ∷ (y ∷ w)) =
    let h = pairs_counted (y ∷ w) in
    let s = sum_by-cons (λ p. cond (eqb p.0 p.1) 1 0) (x, y) (zip (y ∷ w) w) in
    omega (arith, h, s)
