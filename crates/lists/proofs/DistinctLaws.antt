-- Laws of lists whose elements are distinct: what is kept of one, and two of them joined.
use Rattle.std.specs.Prelude.{◌≡◌, refl, Bool}
use Rattle.std.proofs.Math.Bool.{true, false}
use Rattle.std.proofs.Common.{inl, inr}
use mathlib.Core.List.{List, [], ◌∷◌, ◌++◌}
use Rattle.lists.proofs.EachLaws.{each_append}
use Rattle.lists.specs.Lists.{Among, keep, keeping, Distinct}
use Rattle.lists.proofs.AmongLaws.{among_each, each_among, keep_among}

module _ {A : Type 0} where
  pub distinct_keep : (p : A → Bool) (xs : List A) → Distinct xs → Distinct (keep p xs)
  unfolding keep
  distinct_keep p [] h = tt
  distinct_keep p (x ∷ xs) h = by (p x) (distinct_keep p xs h.1)
    where
      by : (b : Bool) → Distinct (keep p xs) → Distinct (keeping b x (keep p xs))
      by true z = (
        among_each (λ (y : A). x ≡ y → ⊥) (keep p xs) (λ y m. each_among (λ (y : A). x ≡ y → ⊥) y xs h.0 (keep_among p y xs m).0),
        z,
      )
      by false z = z

  -- no element of one is an element of the other
  pub distinct_append :
      (xs ys : List A) → Distinct xs → Distinct ys → ((x y : A) → Among x xs → Among y ys → x ≡ y → ⊥) → Distinct (xs ++ ys)
  distinct_append [] ys h g f = g
  distinct_append (x ∷ xs) ys h g f = (
    each_append (λ (y : A). x ≡ y → ⊥) xs ys h.0 (among_each (λ (y : A). x ≡ y → ⊥) ys (λ y m. f x y (inl refl) m)),
    distinct_append xs ys h.1 g (λ a b m n. f a b (inr m) n),
  )
