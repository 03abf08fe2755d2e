-- Laws of ascending lists: consecutive numbers, what keeps the order, and that its elements determine an ascending list.
use Rattle.std.specs.Prelude.{ℕ, zero, suc, ◌+◌, ◌-◌, ◌<◌, ◌≤◌, ◌≡◌, refl, Bool, true, false, ◌⊎◌, length, get_or}
use Rattle.std.proofs.Common.{sym, ap, ap₂, ◌∙◌, inl, inr, le_of_suc-le-suc, not-suc-le-zero, add-one, arith}
use mathlib.Core.List.{List, [], ◌∷◌, ◌++◌, map, flat_map}
use Rattle.lists.proofs.EachLaws.{each_append, each_at}
use Rattle.lists.specs.Lists.{Among, keep, keeping, numbers, Ascending}
use Rattle.lists.specs.Each.{Each}
use Rattle.lists.proofs.OrderLaws.{eq_or_ne}
use Rattle.lists.proofs.AmongLaws.{keep_among, among_each, each_among, map_among, flat_among}

pub length_numbers : (a n : ℕ) → length (numbers a n) ≡ n
unfolding numbers
length_numbers a zero = refl
length_numbers a (suc n) = ap suc (length_numbers (suc a) n)

-- the numbers below e that remain for a loop at j, and none at its end
pub numbers_here : (j e : ℕ) → j < e → numbers j (e - j) ≡ j ∷ numbers (j + 1) (e - (j + 1))
unfolding numbers
numbers_here j e l =
    let size : e - j ≡ suc (e - (j + 1)) = omega arith in
    ap (numbers j) size ∙ ap (λ a. j ∷ numbers a (e - (j + 1))) (sym (add-one j))

pub numbers_past : (j e : ℕ) → e ≤ j → numbers j (e - j) ≡ []
unfolding numbers
numbers_past j e l = let size : e - j ≡ 0 = omega arith in ap (numbers j) size

pub map_numbers_at : {A : Type 0} (f : ℕ → A) (a n i : ℕ) (d : A) → i < n → get_or (map f (numbers a n)) i d ≡ f (a + i)
unfolding numbers
map_numbers_at f a zero i d l = absurd (not-suc-le-zero l)
map_numbers_at f a (suc n) zero d l = ap f (omega arith)
map_numbers_at f a (suc n) (suc i) d l = map_numbers_at f (suc a) n i d (le_of_suc-le-suc l) ∙ ap f (omega arith)

pub among_numbers : (a n i : ℕ) → a ≤ i → i < a + n → Among i (numbers a n)
unfolding numbers
among_numbers a zero i l h = absurd (omega arith)
among_numbers a (suc n) i l h = by (eq_or_ne i a) (among_numbers (suc a) n i)
  where
    by : (i ≡ a) ⊎ (i ≡ a → ⊥) → (suc a ≤ i → i < suc a + n → Among i (numbers (suc a) n)) → (i ≡ a) ⊎ Among i (numbers (suc a) n)
    by (inl e) ih = inl e
    by (inr q) ih = inr (ih (omega arith) (omega arith))

pub numbers_among : (a n i : ℕ) → Among i (numbers a n) → (a ≤ i) × (i < a + n)
unfolding numbers
numbers_among a zero i m = absurd m
numbers_among a (suc n) i (inl e) = (omega arith, omega arith)
numbers_among a (suc n) i (inr m) = let r = numbers_among (suc a) n i m in (omega arith, omega arith)

pub ascending_at : (d : ℕ) (xs : List ℕ) (i j : ℕ) → Ascending xs → i < j → j < length xs → get_or xs i d < get_or xs j d
ascending_at d [] i j h l g = absurd (not-suc-le-zero g)
ascending_at d (x ∷ xs) i zero h l g = absurd (not-suc-le-zero l)
ascending_at d (x ∷ xs) zero (suc j) h l g = each_at (λ y. x < y) d xs j (le_of_suc-le-suc g) h.0
ascending_at d (x ∷ xs) (suc i) (suc j) h l g = ascending_at d xs i j h.1 (le_of_suc-le-suc l) (le_of_suc-le-suc g)

pub ascending_numbers : (a n : ℕ) → Ascending (numbers a n)
unfolding numbers
ascending_numbers a zero = tt
ascending_numbers a (suc n) = (
  among_each (λ y. a < y) (numbers (suc a) n) (λ y m. let r = numbers_among (suc a) n y m in omega arith),
  ascending_numbers (suc a) n,
)

pub ascending_append : (xs ys : List ℕ) → Ascending xs → Ascending ys → ((x y : ℕ) → Among x xs → Among y ys → x < y) → Ascending (xs ++ ys)
ascending_append [] ys p q h = q
ascending_append (x ∷ xs) ys p q h = (
  each_append (λ y. x < y) xs ys p.0 (among_each (λ y. x < y) ys (λ y m. h x y (inl refl) m)),
  ascending_append xs ys p.1 q (λ a b m n. h a b (inr m) n),
)

pub ascending_keep : (p : ℕ → Bool) (xs : List ℕ) → Ascending xs → Ascending (keep p xs)
unfolding keep
ascending_keep p [] h = tt
ascending_keep p (x ∷ xs) h = by (p x) (ascending_keep p xs h.1)
  where
    by : (b : Bool) → Ascending (keep p xs) → Ascending (keeping b x (keep p xs))
    by true ih = (among_each (λ y. x < y) (keep p xs) (λ y m. each_among (λ z. x < z) y xs h.0 (keep_among p y xs m).0), ih)
    by false ih = ih

pub ascending_map : (f : ℕ → ℕ) (xs : List ℕ) → ((a b : ℕ) → Among a xs → Among b xs → a < b → f a < f b) → Ascending xs → Ascending (map f xs)
ascending_map f [] up h = tt
ascending_map f (x ∷ xs) up h = (
  among_each (λ y. f x < y) (map f xs)
      (λ y m.
      let r = map_among f y xs m in
      let l : f x < f r.0 = up x r.0 (inl refl) (inr r.1) (each_among (λ z. x < z) r.0 xs h.0 r.1) in
      let e : y ≡ f r.0 = r.2 in
      omega arith),
  ascending_map f xs (λ a b m n. up a b (inr m) (inr n)) h.1,
)

-- ascending lists, each entirely below the next
pub ascending_flat :
    (f : ℕ → List ℕ) (xs : List ℕ) → ((a : ℕ) → Among a xs → Ascending (f a))
    → ((a b x y : ℕ) → Among a xs → Among b xs → a < b → Among x (f a) → Among y (f b) → x < y) → Ascending xs → Ascending (flat_map f xs)
unfolding flat_map
ascending_flat f [] each up h = tt
ascending_flat f (a ∷ xs) each up h =
    ascending_append (f a) (flat_map f xs)
    (each a (inl refl))
    (ascending_flat f xs (λ b m. each b (inr m)) (λ b c x y m n. up b c x y (inr m) (inr n)) h.1)
    (λ x y m n. let r = flat_among f y xs n in up a r.0 x y (inl refl) (inr r.1) (each_among (λ z. a < z) r.0 xs h.0 r.1) m r.2)

-- two ascending lists with the same elements are equal
pub ascending_same :
    (xs ys : List ℕ) → Ascending xs → Ascending ys → ((a : ℕ) → Among a xs → Among a ys) → ((a : ℕ) → Among a ys → Among a xs) → xs ≡ ys
ascending_same [] [] p q there back = refl
ascending_same [] (y ∷ ys) p q there back = absurd (back y (inl refl))
ascending_same (x ∷ xs) [] p q there back = absurd (there x (inl refl))
ascending_same (x ∷ xs) (y ∷ ys) p q there back = ap₂ ◌∷◌ same (ascending_same xs ys p.1 q.1 on off)
  where
    least : (a : ℕ) (b : ℕ) (bs : List ℕ) → Each (λ z. b < z) bs → (a ≡ b) ⊎ Among a bs → b ≤ a
    least a b bs h (inl e) = omega arith
    least a b bs h (inr m) = let l = each_among (λ z. b < z) a bs h m in omega arith

    same : x ≡ y
    same =
        let l = least x y ys q.0 (there x (inl refl)) in
        let g = least y x xs p.0 (back y (inl refl)) in
        omega arith

    -- an element above the head of a list is in its tail
    tail : (a b : ℕ) (bs : List ℕ) → b < a → (a ≡ b) ⊎ Among a bs → Among a bs
    tail a b bs l (inl e) = absurd (omega arith)
    tail a b bs l (inr m) = m

    on : (a : ℕ) → Among a xs → Among a ys
    on a m = let l = each_among (λ z. x < z) a xs p.0 m in let e = same in tail a y ys (omega arith) (there a (inr m))

    off : (a : ℕ) → Among a ys → Among a xs
    off a m = let l = each_among (λ z. y < z) a ys q.0 m in let e = same in tail a x xs (omega arith) (back a (inr m))
