-- What one iteration of each loop of this crate does, and what the whole loop gives, over plain lists.
use Rattle.std.specs.Prelude.{ℕ, ◌+◌, ◌<◌, ◌≤◌, ◌≡◌, Bool, true, false, ◌&&◌, ◌||◌, ◌⊎◌, List, [], length, get_or, set}
use Rattle.std.proofs.Common.{sym, ap, ◌∙◌, inl, inr, arith}
use Rattle.std.proofs.Math.Bool.{or-false}
use Rattle.std.proofs.Math.ListN.{get_or-eq_default}
use Rattle.lists.proofs.OrderLaws.{lt_or_le}
use Rattle.lists.proofs.UptoLoops.{Upto, upto_left, upto_set}
use Rattle.positions_follow.specs.Sets.{member, arc, Union, Linked}

-- The loop of `unite`, over the letters.

module _ (a b : List Bool) where
  abbrev pub Either : ℕ → Bool → Type 0
  Either i v = v ≡ (member a i || member b i)

  pub unite_step :
      (i : ℕ) (present : List Bool) (v : Bool) → i < length a → Upto false Either a i present → v ≡ (member present i || member b i)
      → Upto false Either a (i + 1) (set present i v)
  unite_step i present v l u e = upto_set false Either a i present v l u (e ∙ ap (λ t. t || member b i) (u.rest i (omega arith)))

  pub unite_all : (i : ℕ) (present : List Bool) → length b ≤ i → Upto false Either a i present → Union a b present
  unite_all i present l u = record { size = u.size; at = λ k. by k (lt_or_le k i) }
    where
      by : (k : ℕ) → (k < i) ⊎ (i ≤ k) → member present k ≡ (member a k || member b k)
      by k (inl h) = u.done k h
      by k (inr h) =
          let none : member b k ≡ false = get_or-eq_default b false (omega arith) in
          u.rest k h ∙ sym (ap (λ t. member a k || t) none ∙ or-false (member a k))

-- The loop of `link`, over the entries of `follow`.

module _ (from to : List Bool) (before : List (List Bool)) where
  abbrev pub Arcs : ℕ → List Bool → Type 0
  Arcs i targets = (j : ℕ) → member targets j ≡ (arc before i j || (member from i && member to j))

  none : (i : ℕ) → member from i ≡ false → Arcs i (get_or before i [])
  none i e j = sym (ap (λ t. arc before i j || (t && member to j)) e ∙ or-false (arc before i j))

  pub link_step :
      (i : ℕ) (present : List (List Bool)) (targets : List Bool) → i < length before → Upto [] Arcs before i present → member from i ≡ true
      → Union (get_or present i []) to targets → Upto [] Arcs before (i + 1) (set present i targets)
  link_step i present targets l u e m =
      upto_set [] Arcs before i present targets l u
      (λ j. m.at j ∙ ap (λ r. member r j || member to j) (u.rest i (omega arith)) ∙ sym (ap (λ t. arc before i j || (t && member to j)) e))

  pub link_pass : (i : ℕ) (present : List (List Bool)) → Upto [] Arcs before i present → member from i ≡ false → Upto [] Arcs before (i + 1) present
  link_pass i present u e = upto_left [] Arcs before i present u (none i e)

  pub link_all : (i : ℕ) (present : List (List Bool)) → length from ≤ i → Upto [] Arcs before i present → Linked from to before present
  link_all i present l u = record { size = u.size; at = λ k. by k (lt_or_le k i) }
    where
      by : (k : ℕ) → (k < i) ⊎ (i ≤ k) → Arcs k (get_or present k [])
      by k (inl h) = u.done k h
      by k (inr h) = λ j. ap (λ r. member r j) (u.rest k h) ∙ none k (get_or-eq_default from false (omega arith)) j
