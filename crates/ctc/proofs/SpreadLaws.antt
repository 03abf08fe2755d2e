-- Laws of spread: its length, its collapse, and that no shorter path has that collapse.
use Rattle.std.specs.Prelude.{ℕ, suc, ◌+◌, ◌<◌, ◌≤◌, ◌≡◌, refl, Bool, true, false, cond, List, [], ◌∷◌, ◌⊎◌, length, eqb}
use Rattle.std.proofs.Common.{sym, ap, ◌∙◌, inl, inr, arith, ne_eqb}
use Rattle.std.proofs.lemmas.Bool.{eqb-false}
use Rattle.lists.proofs.OrderLaws.{eq_or_ne}
use Rattle.lists.specs.Each.{Each}
use Rattle.ctc.specs.Collapse.{collapse}
use Rattle.ctc.proofs.CollapseLaws.{after, after_same, after_blank, after_new, collapse_after, collapse_letters}
use Rattle.ctc.specs.Spread.{parted, spread, pairs, Shortest}

-- its length: the letters, and the pairs of equal neighbours
pub spread_length : (w : List ℕ) → length (spread w) ≡ length w + pairs w
unfolding spread pairs
spread_length [] = omega arith
spread_length (x ∷ []) = omega arith
spread_length (x ∷ (y ∷ w)) = by (eqb x y) (spread_length (y ∷ w))
  where
    by : (t : Bool) → length (spread (y ∷ w)) ≡ suc (length w) + pairs (y ∷ w) → suc (length (parted t (spread (y ∷ w)))) ≡ suc (suc (length w)) + (cond t 1 0 + pairs (y ∷ w))
    by true h = omega arith
    by false h = omega arith

-- Spread from the left: what a word adds to the path after letter a.
unfoldable pub spread_after : ℕ → List ℕ → List ℕ
spread_after a [] = []
spread_after a (x ∷ w) = parted (eqb a x) (x ∷ spread_after x w)

spread_beyond : (x : ℕ) (w : List ℕ) → spread (x ∷ w) ≡ x ∷ spread_after x w
unfolding spread spread_after
spread_beyond x [] = refl
spread_beyond x (y ∷ w) = ap (λ p. x ∷ parted (eqb x y) p) (spread_beyond y w)

-- the spread of a word without blanks is what the word adds after a blank
pub spread_from : (w : List ℕ) → Each (λ x. 0 < x) w → spread w ≡ spread_after 0 w
unfolding spread spread_after
spread_from [] h = refl
spread_from (x ∷ w) h = let z : 0 < x = h.0 in spread_beyond x w ∙ sym (ap (λ t. parted t (x ∷ spread_after x w)) (ne_eqb 0 x (λ e. omega arith)))

-- Collapse undoes spread.

after_spread : (a : ℕ) (w : List ℕ) → Each (λ x. 0 < x) w → after a (spread_after a w) ≡ w
unfolding spread_after after
after_spread a [] h = refl
after_spread a (x ∷ w) h = by (eqb a x) refl (after_spread x w h.1) h.0
  where
    by : (t : Bool) → eqb a x ≡ t → after x (spread_after x w) ≡ w → 0 < x → after a (parted t (x ∷ spread_after x w)) ≡ x ∷ w
    by true e i z =
        after_blank a 0 (x ∷ spread_after x w) refl
        ∙ after_new 0 x (spread_after x w) (λ q. omega arith) (λ q. omega arith)
        ∙ ap (λ l. x ∷ l) i
    by false e i z = after_new a x (spread_after x w) (λ q. eqb-false a x e (sym q)) (λ q. omega arith) ∙ ap (λ l. x ∷ l) i

pub collapse_spread : (w : List ℕ) → Each (λ x. 0 < x) w → collapse (spread w) ≡ w
collapse_spread w h = collapse_after (spread w) ∙ ap (after 0) (spread_from w h) ∙ after_spread 0 w h

-- No path that collapses to the word is shorter: after a letter the path, too, needs a blank before that letter comes again; after
-- blanks (b is the letter before them) the path has that blank already, and spread may need one label more.

pub record Enough (p : List ℕ) : Type 0 where
  pub on_letter : (a : ℕ) → length (spread_after a (after a p)) ≤ length p
  pub in_blanks : (b : ℕ) → length (spread_after b (after 0 p)) ≤ length p + 1

parted_length : (t : Bool) (p : List ℕ) → length (parted t p) ≤ length p + 1
parted_length true p = omega arith
parted_length false p = omega arith

enough : (p : List ℕ) → Enough p
unfolding after spread_after
enough [] = record { on_letter = λ a. omega arith; in_blanks = λ b. omega arith }
enough (x ∷ p) = record { on_letter = λ a. letter a (enough p) (eq_or_ne x a) (eq_or_ne x 0); in_blanks = λ b. blanks b (enough p) (eq_or_ne x 0) }
  where
    letter : (a : ℕ) → Enough p → (x ≡ a) ⊎ (x ≡ a → ⊥) → (x ≡ 0) ⊎ (x ≡ 0 → ⊥) → length (spread_after a (after a (x ∷ p))) ≤ suc (length p)
    letter a h (inl e) z = rw (after_same a x p e, ← e) (let k = h.on_letter x in omega arith)
    letter a h (inr n) (inl z) = rw (after_blank a x p z, z) (let k = h.in_blanks a in omega arith)
    letter a h (inr n) (inr z) = rw (after_new a x p n z, spread_after, ne_eqb a x (λ e. n (sym e))) (let k = h.on_letter x in omega arith)

    blanks : (b : ℕ) → Enough p → (x ≡ 0) ⊎ (x ≡ 0 → ⊥) → length (spread_after b (after 0 (x ∷ p))) ≤ suc (length p) + 1
    blanks b h (inl z) = rw (after_blank 0 x p z, z) (let k = h.in_blanks b in omega arith)
    blanks b h (inr z) =
        rw (after_new 0 x p z z)
        (let k = h.on_letter x in let l = parted_length (eqb b x) (x ∷ spread_after x (after x p)) in omega arith)

pub spread_shortest : (p : List ℕ) → length (spread (collapse p)) ≤ length p
spread_shortest p = rw (spread_from (collapse p) (collapse_letters p), collapse_after p) ((enough p).on_letter 0)

pub spread_is_shortest : (w : List ℕ) → Each (λ x. 0 < x) w → Shortest w (spread w)
spread_is_shortest w h = record { collapses = collapse_spread w h; shortest = λ q e. rw e at (spread_shortest q) }
