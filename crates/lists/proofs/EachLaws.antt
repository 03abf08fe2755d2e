-- Laws of what holds of each element of a list, as a fact and as a test, and of the loop that tests the elements by index.
use Rattle.std.specs.Prelude.{ℕ, zero, suc, ◌+◌, ◌<◌, ◌≤◌, ◌≡◌, Bool, true, false, ◌&&◌, length, get_or, drop}
use Rattle.std.proofs.Math.Path.{refl, sym, ap}
use Rattle.std.proofs.Common.{◌∙◌, arith, add-one, le_of_suc-le-suc, not-suc-le-zero, drop_of_length-le, drop-cons}
use mathlib.Core.List.{List, [], ◌∷◌, ◌++◌}
use Rattle.lists.proofs.OrderLaws.{and_left, and_right, and_both}
use Rattle.lists.specs.Each.{all, Each}

module _ {A : Type 0} where
  pub each_map : (P Q : A → Type 0) → ((x : A) → P x → Q x) → (xs : List A) → Each P xs → Each Q xs
  each_map P Q f [] h = tt
  each_map P Q f (x ∷ xs) h = (f x h.0, each_map P Q f xs h.1)

  -- two facts of each element give a third
  pub each_both : (P Q R : A → Type 0) → ((x : A) → P x → Q x → R x) → (xs : List A) → Each P xs → Each Q xs → Each R xs
  each_both P Q R f [] h g = tt
  each_both P Q R f (x ∷ xs) h g = (f x h.0 g.0, each_both P Q R f xs h.1 g.1)

  pub each_append : (P : A → Type 0) (xs ys : List A) → Each P xs → Each P ys → Each P (xs ++ ys)
  each_append P [] ys h g = g
  each_append P (x ∷ xs) ys h g = (h.0, each_append P xs ys h.1 g)

  pub each_left : (P : A → Type 0) (xs ys : List A) → Each P (xs ++ ys) → Each P xs
  each_left P [] ys h = tt
  each_left P (x ∷ xs) ys h = (h.0, each_left P xs ys h.1)

  pub each_right : (P : A → Type 0) (xs ys : List A) → Each P (xs ++ ys) → Each P ys
  each_right P [] ys h = h
  each_right P (x ∷ xs) ys h = each_right P xs ys h.1

  pub each_at : (P : A → Type 0) (d : A) (xs : List A) (i : ℕ) → i < length xs → Each P xs → P (get_or xs i d)
  each_at P d [] i l h = absurd (not-suc-le-zero l)
  each_at P d (x ∷ xs) zero l h = h.0
  each_at P d (x ∷ xs) (suc i) l h = each_at P d xs i (le_of_suc-le-suc l) h.1

  pub each_index : (P : A → Type 0) (d : A) (xs : List A) → ((i : ℕ) → i < length xs → P (get_or xs i d)) → Each P xs
  each_index P d [] h = tt
  each_index P d (x ∷ xs) h = (h 0 (omega arith), each_index P d xs (λ i l. h (suc i) (omega arith)))

  -- what also holds of the default holds at any index
  pub each_anywhere : (P : A → Type 0) (d : A) (xs : List A) (i : ℕ) → P d → Each P xs → P (get_or xs i d)
  each_anywhere P d [] i z h = z
  each_anywhere P d (x ∷ xs) zero z h = h.0
  each_anywhere P d (x ∷ xs) (suc i) z h = each_anywhere P d xs i z h.1

  -- the test gives the fact, and the fact gives the test
  pub all_each : (p : A → Bool) (P : A → Type 0) → ((x : A) → p x ≡ true → P x) → (xs : List A) → all p xs ≡ true → Each P xs
  all_each p P f [] e = tt
  all_each p P f (x ∷ xs) e = (f x (and_left (p x) (all p xs) e), all_each p P f xs (and_right (p x) (all p xs) e))

  pub each_all : (p : A → Bool) (P : A → Type 0) → ((x : A) → P x → p x ≡ true) → (xs : List A) → Each P xs → all p xs ≡ true
  each_all p P f [] h = refl
  each_all p P f (x ∷ xs) h = and_both (p x) (all p xs) (f x h.0) (each_all p P f xs h.1)

  -- what remains of a list for a loop at index i, and nothing at its end
  pub drop_here : (d : A) (xs : List A) (i : ℕ) → i < length xs → drop i xs ≡ get_or xs i d ∷ drop (i + 1) xs
  drop_here d xs i l = drop-cons xs i d l ∙ ap (λ k. get_or xs i d ∷ drop k xs) (sym (add-one i))

  pub drop_all : (xs : List A) (i : ℕ) → length xs ≤ i → drop i xs ≡ []
  drop_all xs i l = drop_of_length-le xs l

  -- The loop that tests each element from the left: at index i the rest of xs decides. Past the end an element is d.
  module _ (p : A → Bool) (d : A) (xs : List A) where
    pub all_more :
        (i : ℕ) → i < length xs → p (get_or xs i d) ≡ true → all p (drop i xs) ≡ all p xs → all p (drop (i + 1) xs) ≡ all p xs
    all_more i l t e = sym (ap (all p) (drop_here d xs i l) ∙ ap (λ b. b && all p (drop (i + 1) xs)) t) ∙ e

    pub all_fails : (i : ℕ) → i < length xs → p (get_or xs i d) ≡ false → all p (drop i xs) ≡ all p xs → all p xs ≡ false
    all_fails i l t e = sym e ∙ ap (all p) (drop_here d xs i l) ∙ ap (λ b. b && all p (drop (i + 1) xs)) t

  pub all_end : (p : A → Bool) (xs : List A) (i : ℕ) → length xs ≤ i → all p (drop i xs) ≡ all p xs → all p xs ≡ true
  all_end p xs i l e = sym e ∙ ap (all p) (drop_all xs i l)
