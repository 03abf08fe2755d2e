-- Laws of lent memory that was written only from one place up to another: outside this part it is as before.
use Rattle.std.specs.Prelude.{ℕ, ◌+◌, ◌-◌, ◌<◌, ◌≤◌, ◌≡◌, refl, List, get_or, take, drop, set}
use Rattle.std.proofs.Common.{sym, ap, ◌∙◌, arith, length-set, take-take, drop-drop, drop-set-lt, get_or-take, get_or-drop}
use Rattle.std.proofs.lemmas.List.{take-set-le}
use Rattle.lists.specs.Stored.{Outside}

module _ {A : Type 0} where
  pub outside_none : (a b : ℕ) (m : List A) → Outside a b m m
  outside_none a b m = record { size = refl; front = refl; beyond = refl }

  pub outside_set : (a b : ℕ) (m : List A) (i : ℕ) (v : A) → a ≤ i → i < b → Outside a b m (set m i v)
  outside_set a b m i v l h = record { size = length-set m i v; front = take-set-le a m i v l; beyond = drop-set-lt b m i v h }

  pub outside_then : {a b : ℕ} {l m n : List A} → Outside a b l m → Outside a b m n → Outside a b l n
  outside_then x y = record { size = y.size ∙ x.size; front = y.front ∙ x.front; beyond = y.beyond ∙ x.beyond }

  -- the same for a larger part
  pub outside_wider : {a b : ℕ} (c d : ℕ) {l m : List A} → c ≤ a → b ≤ d → Outside a b l m → Outside c d l m
  outside_wider {a} {b} c d {l} {m} h k x =
      record {
        size = x.size;
        front = sym (take-take c a m h) ∙ ap (take c) x.front ∙ take-take c a l h;
        beyond = sym (shift m) ∙ ap (drop (d - b)) x.beyond ∙ shift l;
      }
    where
      shift : (n : List A) → drop (d - b) (drop b n) ≡ drop d n
      shift n = let e : b + (d - b) ≡ d = omega arith in drop-drop (d - b) b n ∙ ap (λ i. drop i n) e

  -- element by element
  pub front_at : {a b : ℕ} {l m : List A} (d : A) (i : ℕ) → Outside a b l m → i < a → get_or m i d ≡ get_or l i d
  front_at {a} {b} {l} {m} d i x h = sym (get_or-take a m i d h) ∙ ap (λ n. get_or n i d) x.front ∙ get_or-take a l i d h

  pub beyond_at : {a b : ℕ} {l m : List A} (d : A) (i : ℕ) → Outside a b l m → b ≤ i → get_or m i d ≡ get_or l i d
  beyond_at {a} {b} {l} {m} d i x h = sym (at m) ∙ ap (λ n. get_or n (i - b) d) x.beyond ∙ at l
    where
      at : (n : List A) → get_or (drop b n) (i - b) d ≡ get_or n i d
      at n = let e : b + (i - b) ≡ i = omega arith in get_or-drop b n (i - b) d ∙ ap (λ k. get_or n k d) e
