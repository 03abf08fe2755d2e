-- What holds of a parser's answer, one fact of what was found and another of a fault: it is shown part by part, as the answer is put
-- together.
use Rattle.std.specs.Prelude.{◌≡◌, List, ◌∷◌, Bool, ℕ}
use Rattle.std.proofs.Math.Path.{refl}
use Rattle.std.proofs.Math.Option.{Option, some, none}
use Rattle.std.proofs.Math.Bool.{true, false}
use Rattle.std.proofs.Common.{arith}
use Rattle.refusal.specs.declared.Refusal.{Refusal}
use Rattle.regex_tree.specs.Parsing.{Parsing, found, fault, then, enclosed}
use Rattle.lists.specs.Cases.{Case, when, first_of}

abbrev pub Says : {X : Type 0} → (X → List ℕ → Type 0) → (Refusal → List ℕ → Type 0) → Parsing X → Type 0
Says P Q (found a s) = P a s
Says P Q (fault n s) = Q n s

module _ {X : Type 0} (P : X → List ℕ → Type 0) (Q : Refusal → List ℕ → Type 0) where
  pub of_found : (x : Parsing X) (a : X) (s : List ℕ) → Says P Q x → x ≡ found a s → P a s
  of_found x a s h e = rw e at h

  pub of_fault : (x : Parsing X) (n : Refusal) (s : List ℕ) → Says P Q x → x ≡ fault n s → Q n s
  of_fault x n s h e = rw e at h

  -- what was found, with the equation that says so
  pub says_found : (x : Parsing X) → Says P Q x → Says (λ a s. P a s × (x ≡ found a s)) Q x
  says_found (found a s) h = (h, refl)
  says_found (fault n s) h = h

  pub branch_says : (b : Bool) (x y : Parsing X) → (b ≡ true → Says P Q x) → (b ≡ false → Says P Q y) → Says P Q (elim b [ true ↦ x | false ↦ y ])
  branch_says true x y f g = f refl
  branch_says false x y f g = g refl

  pub first_says :
      (t : Bool) (a : Parsing X) (cs : List (Case (Parsing X))) (d : Parsing X) → (t ≡ true → Says P Q a) → (t ≡ false → Says P Q (first_of cs d)) →
      Says P Q (first_of (when t a ∷ cs) d)
  unfolding first_of
  first_says true a cs d f g = f refl
  first_says false a cs d f g = g refl

  pub enclosed_says :
      {I : Type 0} (n : Refusal) (w : List ℕ) (f : I → Option X) (y : Option (I × List ℕ)) →
      Q n w → ((x : I × List ℕ) (a : X) → y ≡ some x → f x.0 ≡ some a → P a x.1) → Says P Q (enclosed n w f y)
  unfolding enclosed
  enclosed_says n w f none q h = q
  enclosed_says n w f (some x) q h = by (f x.0) refl
    where
      by : (z : Option X) → f x.0 ≡ z → Says P Q (elim z [ none ↦ fault n w | some a ↦ found a x.1 ])
      by none e = q
      by (some a) e = h x a refl e

module _ {X Y : Type 0} (P : X → List ℕ → Type 0) (P' : Y → List ℕ → Type 0) (Q Q' : Refusal → List ℕ → Type 0) where
  pub then_says :
      (x : Parsing X) (f : X → List ℕ → Parsing Y) → Says P Q x → ((n : Refusal) (s : List ℕ) → Q n s → Q' n s) →
      ((a : X) (s : List ℕ) → P a s → Says P' Q' (f a s)) → Says P' Q' (then x f)
  unfolding then
  then_says (found a s) f h q p = p a s h
  then_says (fault n s) f h q p = q n s h

pub says_map :
    {X : Type 0} (P P' : X → List ℕ → Type 0) (Q : Refusal → List ℕ → Type 0) (x : Parsing X) → Says P Q x → ((a : X) (s : List ℕ) → P a s → P' a s) →
    Says P' Q x
says_map P P' Q (found a s) h p = p a s h
says_map P P' Q (fault n s) h p = h

-- `then`, and a branch, over answers that are equal
pub then_same :
    {X Y : Type 0} (x x' : Parsing X) (f f' : X → List ℕ → Parsing Y) → x ≡ x' →
    ((a : X) (s : List ℕ) → x' ≡ found a s → f a s ≡ f' a s) → then x f ≡ then x' f'
unfolding then
then_same x x' f f' e g = rw e (by x' refl)
  where
    by : (y : Parsing _) → x' ≡ y → then y f ≡ then y f'
    by (found a s) k = g a s k
    by (fault n s) k = refl

pub branch_same :
    {X : Type 0} (b : Bool) (x y x' y' : X) → (b ≡ true → x ≡ x') → (b ≡ false → y ≡ y') →
    ◌≡◌ {A = X} (elim b [ true ↦ x | false ↦ y ]) (elim b [ true ↦ x' | false ↦ y' ])
branch_same true x y x' y' f g = f refl
branch_same false x y x' y' f g = g refl

-- what `then` finds is found after something else
pub then_found :
    {X Y : Type 0} (x : Parsing X) (f : X → List ℕ → Parsing Y) (b : Y) (r : List ℕ) → then x f ≡ found b r →
    (a : X) × (s : List ℕ) × (x ≡ found a s) × (f a s ≡ found b r)
unfolding then
then_found (found a s) f b r e = (a, s, refl, e)
then_found (fault n s) f b r e = let z : ◌≡◌ {A = ℕ} 0 1 = cc in absurd (omega arith)
