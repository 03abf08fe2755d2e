-- Laws of the elements of a list: as a fact, as a test, and after map, keep, append and flat_map; and the loop that looks for an element.
use Prim.Native.Nat.{ℕ, zero, suc, ◌+◌, ◌*◌, ◌<◌, ◌≤◌}
use Rattle.std.proofs.Math.Path.{◌≡◌, refl, sym, ap, ap₂, subst}
use Rattle.std.proofs.Common.{◌∙◌, le_of_suc-le-suc, not-suc-le-zero}
use Rattle.std.specs.Prelude.{Bool, cond, ◌||◌, ◌⊎◌, get_or, drop}
use Rattle.std.proofs.Math.Bool.{true, false, or_assoc}
use Rattle.std.proofs.Math.Logic.{inl, inr}
use mathlib.Core.List.{List, [], ◌∷◌, ◌++◌, map, flat_map, append_assoc, append-nil}
use native.Mathlib.Omega.{arith}
use Rattle.std.proofs.Math.ListN.{length, length-append}
use Rattle.lists.specs.Lists.{Among, any, keeping, keep}
use Rattle.lists.specs.Each.{Each}
use Rattle.lists.proofs.EachLaws.{drop_here, drop_all}
use Rattle.lists.proofs.OrderLaws.{or_either}

module _ {A : Type 0} where
  pub any_among : (p : A → Bool) (xs : List A) → any p xs ≡ true → (x : A) × Among x xs × (p x ≡ true)
  any_among p [] e = let z : ◌≡◌ {A = ℕ} 0 1 = cc in absurd (omega arith)
  any_among p (x ∷ xs) e = by (or_either (p x) (any p xs) e) (any_among p xs)
    where
      by : (p x ≡ true) ⊎ (any p xs ≡ true) → (any p xs ≡ true → (y : A) × Among y xs × (p y ≡ true)) → (y : A) × ((y ≡ x) ⊎ Among y xs) × (p y ≡ true)
      by (inl h) ih = (x, inl refl, h)
      by (inr h) ih = let r : (y : A) × Among y xs × (p y ≡ true) = ih h in (r.0, inr r.1, r.2)

  pub among_any : (p : A → Bool) (a : A) (xs : List A) → Among a xs → p a ≡ true → any p xs ≡ true
  among_any p a [] m h = absurd m
  among_any p a (x ∷ xs) (inl e) h = ap (λ b. b || any p xs) (ap p (sym e) ∙ h)
  among_any p a (x ∷ xs) (inr m) h = ap (λ b. p x || b) (among_any p a xs m h) ∙ by (p x)
    where
      by : (b : Bool) → (b || true) ≡ true
      by true = refl
      by false = refl

  pub each_among : (P : A → Type 0) (a : A) (xs : List A) → Each P xs → Among a xs → P a
  each_among P a [] h m = absurd m
  each_among P a (x ∷ xs) h (inl e) = subst P (sym e) h.0
  each_among P a (x ∷ xs) h (inr m) = each_among P a xs h.1 m

  pub among_each : (P : A → Type 0) (xs : List A) → ((x : A) → Among x xs → P x) → Each P xs
  among_each P [] f = tt
  among_each P (x ∷ xs) f = (f x (inl refl), among_each P xs (λ y m. f y (inr m)))

  pub among_at : (d : A) (xs : List A) (i : ℕ) → i < length xs → Among (get_or xs i d) xs
  among_at d [] i l = absurd (not-suc-le-zero l)
  among_at d (x ∷ xs) zero l = inl refl
  among_at d (x ∷ xs) (suc i) l = inr (among_at d xs i (le_of_suc-le-suc l))

  pub among_index : (d a : A) (xs : List A) → Among a xs → (i : ℕ) × (i < length xs) × (get_or xs i d ≡ a)
  among_index d a [] m = absurd m
  among_index d a (x ∷ xs) (inl e) = (0, omega arith, sym e)
  among_index d a (x ∷ xs) (inr m) = let r = among_index d a xs m in (suc r.0, let l = r.1 in omega arith, r.2)

  pub among_left : (a : A) (xs ys : List A) → Among a xs → Among a (xs ++ ys)
  among_left a [] ys m = absurd m
  among_left a (x ∷ xs) ys (inl e) = inl e
  among_left a (x ∷ xs) ys (inr m) = inr (among_left a xs ys m)

  pub among_right : (a : A) (xs ys : List A) → Among a ys → Among a (xs ++ ys)
  among_right a [] ys m = m
  among_right a (x ∷ xs) ys m = inr (among_right a xs ys m)

  pub among_append : (a : A) (xs ys : List A) → Among a (xs ++ ys) → Among a xs ⊎ Among a ys
  among_append a [] ys m = inr m
  among_append a (x ∷ xs) ys (inl e) = inl (inl e)
  among_append a (x ∷ xs) ys (inr m) = by (among_append a xs ys m)
    where
      by : Among a xs ⊎ Among a ys → ((a ≡ x) ⊎ Among a xs) ⊎ Among a ys
      by (inl l) = inl (inr l)
      by (inr r) = inr r

  pub keep_append : (p : A → Bool) (xs ys : List A) → keep p (xs ++ ys) ≡ keep p xs ++ keep p ys
  unfolding keep
  keep_append p [] ys = refl
  keep_append p (x ∷ xs) ys = rw (keep_append p xs ys) (by (p x))
    where
      by : (t : Bool) → keeping t x (keep p xs ++ keep p ys) ≡ keeping t x (keep p xs) ++ keep p ys
      by true = refl
      by false = refl

  pub any_append : (p : A → Bool) (xs ys : List A) → any p (xs ++ ys) ≡ (any p xs || any p ys)
  any_append p [] ys = refl
  any_append p (x ∷ xs) ys = rw (any_append p xs ys) (sym (or_assoc (p x) (any p xs) (any p ys)))

  -- The loop that looks for an element which passes: at index i the rest of xs decides. Past the end an element is d.
  module _ (p : A → Bool) (d : A) (xs : List A) (i : ℕ) where
    pub any_more : i < length xs → p (get_or xs i d) ≡ false → any p (drop i xs) ≡ any p xs → any p (drop (i + 1) xs) ≡ any p xs
    any_more l t e = sym (ap (any p) (drop_here d xs i l) ∙ ap (λ b. b || any p (drop (i + 1) xs)) t) ∙ e

    pub any_found : i < length xs → p (get_or xs i d) ≡ true → any p xs ≡ true
    any_found l t = among_any p (get_or xs i d) xs (among_at d xs i l) t

  pub any_end : (p : A → Bool) (xs : List A) (i : ℕ) → length xs ≤ i → any p (drop i xs) ≡ any p xs → any p xs ≡ false
  any_end p xs i l e = sym e ∙ ap (any p) (drop_all xs i l)

  -- tests that agree on the list keep the same elements
  pub keep_same : (p q : A → Bool) (xs : List A) → ((x : A) → Among x xs → p x ≡ q x) → keep p xs ≡ keep q xs
  unfolding keep
  keep_same p q [] h = refl
  keep_same p q (x ∷ xs) h = ap₂ (λ t ys. keeping t x ys) (h x (inl refl)) (keep_same p q xs (λ y m. h y (inr m)))

  pub keeping_length : (t : Bool) (x : A) (xs : List A) → length (keeping t x xs) ≡ cond t 1 0 + length xs
  keeping_length true x xs = omega arith
  keeping_length false x xs = omega arith

  pub keep_shorter : (p : A → Bool) (xs : List A) → length (keep p xs) ≤ length xs
  unfolding keep
  keep_shorter p [] = omega arith
  keep_shorter p (x ∷ xs) = by (p x) (keep_shorter p xs)
    where
      by : (t : Bool) → length (keep p xs) ≤ length xs → length (keeping t x (keep p xs)) ≤ suc (length xs)
      by true h = omega arith
      by false h = omega arith

  pub among_keep : (p : A → Bool) (a : A) (xs : List A) → Among a xs → p a ≡ true → Among a (keep p xs)
  unfolding keep
  among_keep p a [] m h = absurd m
  among_keep p a (x ∷ xs) (inl e) h = subst (λ b. Among a (keeping b x (keep p xs))) (sym (ap p (sym e) ∙ h)) (inl e)
  among_keep p a (x ∷ xs) (inr m) h = by (p x) (among_keep p a xs m h)
    where
      by : (b : Bool) → Among a (keep p xs) → Among a (keeping b x (keep p xs))
      by true r = inr r
      by false r = r

  pub keep_among : (p : A → Bool) (a : A) (xs : List A) → Among a (keep p xs) → Among a xs × (p a ≡ true)
  unfolding keep
  keep_among p a [] m = absurd m
  keep_among p a (x ∷ xs) m = by (p x) refl m (keep_among p a xs)
    where
      by :
          (b : Bool) → p x ≡ b → Among a (keeping b x (keep p xs)) → (Among a (keep p xs) → Among a xs × (p a ≡ true))
          → ((a ≡ x) ⊎ Among a xs) × (p a ≡ true)
      by true e (inl q) ih = (inl q, ap p q ∙ e)
      by true e (inr r) ih = (inr (ih r).0, (ih r).1)
      by false e r ih = (inr (ih r).0, (ih r).1)

module _ {A B : Type 0} where
  pub map_same : (f g : A → B) (xs : List A) → ((x : A) → Among x xs → f x ≡ g x) → map f xs ≡ map g xs
  map_same f g [] e = refl
  map_same f g (x ∷ xs) e = ap₂ ◌∷◌ (e x (inl refl)) (map_same f g xs (λ y m. e y (inr m)))

  pub flat_same : (f g : A → List B) (xs : List A) → ((x : A) → Among x xs → f x ≡ g x) → flat_map f xs ≡ flat_map g xs
  unfolding flat_map
  flat_same f g [] e = refl
  flat_same f g (x ∷ xs) e = ap₂ ◌++◌ (e x (inl refl)) (flat_same f g xs (λ y m. e y (inr m)))

module _ {A B : Type 0} (f : A → B) where
  -- at an index within the list, whatever an element past its end counts as
  pub map_at : (xs : List A) (i : ℕ) (a : A) (b : B) → i < length xs → get_or (map f xs) i b ≡ f (get_or xs i a)
  map_at [] i a b l = absurd (not-suc-le-zero l)
  map_at (x ∷ xs) zero a b l = refl
  map_at (x ∷ xs) (suc i) a b l = map_at xs i a b (le_of_suc-le-suc l)

  pub among_map : (a : A) (xs : List A) → Among a xs → Among (f a) (map f xs)
  among_map a [] m = absurd m
  among_map a (x ∷ xs) (inl e) = inl (ap f e)
  among_map a (x ∷ xs) (inr m) = inr (among_map a xs m)

  pub map_among : (b : B) (xs : List A) → Among b (map f xs) → (a : A) × Among a xs × (b ≡ f a)
  map_among b [] m = absurd m
  map_among b (x ∷ xs) (inl e) = (x, inl refl, e)
  map_among b (x ∷ xs) (inr m) = let r = map_among b xs m in (r.0, inr r.1, r.2)

module _ {A B : Type 0} (f : A → List B) where
  pub flat_append : (xs ys : List A) → flat_map f (xs ++ ys) ≡ flat_map f xs ++ flat_map f ys
  unfolding flat_map
  flat_append [] ys = refl
  flat_append (x ∷ xs) ys = rw (flat_append xs ys) (sym (append_assoc (f x) (flat_map f xs) (flat_map f ys)))

  pub flat_one : (x : A) → flat_map f (x ∷ []) ≡ f x
  unfolding flat_map
  flat_one x = append-nil (f x)

  pub among_flat : (a : A) (b : B) (xs : List A) → Among a xs → Among b (f a) → Among b (flat_map f xs)
  unfolding flat_map
  among_flat a b [] m h = absurd m
  among_flat a b (x ∷ xs) (inl e) h = among_left b (f x) (flat_map f xs) (subst (λ y. Among b (f y)) e h)
  among_flat a b (x ∷ xs) (inr m) h = among_right b (f x) (flat_map f xs) (among_flat a b xs m h)

  pub flat_among : (b : B) (xs : List A) → Among b (flat_map f xs) → (a : A) × Among a xs × Among b (f a)
  unfolding flat_map
  flat_among b [] m = absurd m
  flat_among b (x ∷ xs) m = by (among_append b (f x) (flat_map f xs) m) (flat_among b xs)
    where
      by :
          Among b (f x) ⊎ Among b (flat_map f xs) → (Among b (flat_map f xs) → (a : A) × Among a xs × Among b (f a))
          → (a : A) × ((a ≡ x) ⊎ Among a xs) × Among b (f a)
      by (inl l) ih = (x, inl refl, l)
      by (inr r) ih = let q = ih r in (q.0, inr q.1, q.2)

  -- where each `f a` has at most n elements
  pub flat_length : (n : ℕ) → ((a : A) → length (f a) ≤ n) → (xs : List A) → length (flat_map f xs) ≤ length xs * n
  unfolding flat_map
  flat_length n h [] = omega arith
  flat_length n h (x ∷ xs) = let a = h x in let b = flat_length n h xs in omega (arith, length-append (f x) (flat_map f xs))
