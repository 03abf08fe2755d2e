-- `positions_letters::range` meets its contract: the part from `from` to `to` is filled.
use Rattle.std.specs.Prelude.{ℕ, suc, ◌+◌, ◌-◌, ◌<◌, ◌≤◌, ◌≡◌, ◌⊎◌, ◌&&◌, List, ◌++◌, Bool, true, false, length, get_or, leb, ltb, replicate}
use Rattle.std.proofs.Common.{sym, ◌∙◌, ap, refl, inl, inr, rules, arith, le-leb, lt-ltb, le-ltb}
use Rattle.std.proofs.lemmas.Bool.{lt-leb}
use Rattle.std.proofs.lemmas.List.{length-replicate, take-replicate, drop-replicate, get_or_append_left, get_or-append_right, get_or-replicate}
use Rattle.std.proofs.Math.Bool.{and-false}
use borrow.Rule.Slice.PartMut.{put_mid}
use Rattle.lists.proofs.OrderLaws.{lt_or_le}
use Rattle.positions_letters.specs.Letters.{Ranged}
use Rattle.positions_letters.specs.LettersLaws.{none_marked}
use Rattle.positions_letters.proofs.range.Goals as goal

marks :
    (n k r i : ℕ) → get_or (replicate n false ++ (replicate k true ++ replicate r false)) i false ≡ (leb (suc n) (suc i) && ltb (suc i) (suc (n + k)))
marks n k r i = by (lt_or_le i n) (lt_or_le i (n + k))
  where
    size : (j : ℕ) (b : Bool) → length (replicate j b) ≡ j
    size j b = length-replicate j b

    by :
        (i < n) ⊎ (n ≤ i) → (i < n + k) ⊎ (n + k ≤ i)
        → get_or (replicate n false ++ (replicate k true ++ replicate r false)) i false ≡ (leb (suc n) (suc i) && ltb (suc i) (suc (n + k)))
    by (inl d) h =
        get_or_append_left (replicate n false) (replicate k true ++ replicate r false) false i (omega (arith, size n false))
        ∙ none_marked n i ∙ sym (ap (λ t. t && ltb (suc i) (suc (n + k))) (lt-leb (suc n) (suc i) (omega arith)))
    by (inr d) (inl h) =
        get_or-append_right (replicate n false) (replicate k true ++ replicate r false) n i false (size n false) d
        ∙ get_or_append_left (replicate k true) (replicate r false) false (i - n) (omega (arith, size k true))
        ∙ get_or-replicate k (i - n) true false (omega arith)
        ∙ sym (rw (le-leb (suc n) (suc i) (omega arith), lt-ltb (suc i) (suc (n + k)) (omega arith)) refl)
    by (inr d) (inr h) =
        get_or-append_right (replicate n false) (replicate k true ++ replicate r false) n i false (size n false) d
        ∙ get_or-append_right (replicate k true) (replicate r false) k (i - n) false (size k true) (omega arith)
        ∙ none_marked r (i - n - k)
        ∙ sym (ap (λ t. leb (suc n) (suc i) && t) (le-ltb (suc i) (suc (n + k)) (omega arith)) ∙ and-false (leb (suc n) (suc i)))

filled :
    (n m k : ℕ) (xs ys : List Bool) → n ≤ m → m ≤ 127 → k ≡ m - n → xs ≡ replicate 127 false → ys ≡ replicate k true → Ranged n m (put_mid n (m - n) xs ys)
unfolding Ranged
filled n m k xs ys a b e p q i =
    let c : n + (m - n) ≡ m = omega arith in
    let h : n ≤ 127 = omega arith in
    rw (p, q, e, take-replicate n 127 false h, drop-replicate n 127 false, drop-replicate (m - n) (127 - n) false)
    (marks n (m - n) (127 - n - (m - n)) i ∙ ap (λ t. leb (suc n) (suc i) && ltb (suc i) (suc t)) c)

pub returns : goal.returns
returns c = filled _ _ _ _ _ (omega arith) (omega arith) (search rules) refl (c.fill.ensures.after (λ y e. e))
