-- Laws of the first check that holds.
use Rattle.std.proofs.Math.Path.{◌≡◌, refl, ap}
use Rattle.std.proofs.Common.{subst, ◌∙◌, arith}
use Rattle.std.specs.Prelude.{ℕ, Bool, Ok, Err}
use Rattle.std.proofs.Math.Bool.{true, false}
use mathlib.Core.List.{List, [], ◌∷◌}
use Rattle.lists.specs.Each.{Each}
use Rattle.refusal.specs.declared.Refusal.{Refusal}
use Rattle.refusal.specs.Verdict.{passed, refused, Check, check, unless, first_refusal}

module _ {A : Type 0} (a : A) where
  pub unless_none : unless [] a ≡ passed a
  unfolding unless
  unless_none = refl

  pub unless_holds : (t : Bool) (n : Refusal) (cs : List Check) → t ≡ true → unless (check t n ∷ cs) a ≡ refused n
  unfolding unless
  unless_holds t n cs e = rw e

  pub unless_fails : (t : Bool) (n : Refusal) (cs : List Check) → t ≡ false → unless (check t n ∷ cs) a ≡ unless cs a
  unfolding unless
  unless_fails t n cs e = rw (e, unless)

  -- of two checks
  pub unless_second : (s t : Bool) (m n : Refusal) → s ≡ false → t ≡ true → unless (check s m ∷ (check t n ∷ [])) a ≡ refused n
  unless_second s t m n e f = unless_fails s m (check t n ∷ []) e ∙ unless_holds t n [] f

  pub unless_neither : (s t : Bool) (m n : Refusal) → s ≡ false → t ≡ false → unless (check s m ∷ (check t n ∷ [])) a ≡ passed a
  unless_neither s t m n e f = unless_fails s m (check t n ∷ []) e ∙ unless_fails t n [] f ∙ unless_none

-- what passed a list of checks passed each
module _ {A : Type 0} (a b : A) where
  pub unless_passed : (t : Bool) (n : Refusal) (cs : List Check) → unless (check t n ∷ cs) a ≡ passed b → (t ≡ false) × (unless cs a ≡ passed b)
  unfolding unless
  unless_passed true n cs e = let z : ◌≡◌ {A = ℕ} 0 1 = cc in absurd (omega arith)
  unless_passed false n cs e = (refl, e)

  pub unless_same : unless [] a ≡ passed b → a ≡ b
  unfolding unless
  unless_same e = cc

  -- the checks alone
  pub unless_all : (cs : List Check) → unless cs a ≡ passed b → (first_refusal cs ≡ Ok tt) × (a ≡ b)
  unfolding unless first_refusal
  unless_all [] e = (refl, cc)
  unless_all (check true n ∷ cs) e = let z : ◌≡◌ {A = ℕ} 0 1 = cc in absurd (omega arith)
  unless_all (check false n ∷ cs) e = unless_all cs e

pub first_holds : (t : Bool) (n : Refusal) (cs : List Check) → t ≡ true → first_refusal (check t n ∷ cs) ≡ Err n
unfolding first_refusal
first_holds t n cs e = rw e

pub first_fails : (t : Bool) (n : Refusal) (cs : List Check) → t ≡ false → first_refusal (check t n ∷ cs) ≡ first_refusal cs
unfolding first_refusal
first_fails t n cs e = rw (e, first_refusal)

abbrev pub refusal_of : Check → Refusal
refusal_of (check t n) = n

-- two lists that begin with the same check
pub first_same :
    (s t : Bool) (n : Refusal) (cs ds : List Check) → s ≡ t → first_refusal cs ≡ first_refusal ds
    → first_refusal (check s n ∷ cs) ≡ first_refusal (check t n ∷ ds)
unfolding first_refusal
first_same s true n cs ds e h = rw e
first_same s false n cs ds e h = rw (e, h)

-- a refusal is that of some check in the list: what holds of each of them holds of it
pub first_of :
    (P : Refusal → Type 0) (cs : List Check) → Each (λ c. P (refusal_of c)) cs → (n : Refusal) → first_refusal cs ≡ Err n → P n
unfolding first_refusal
first_of P [] h n e = let z : ◌≡◌ {A = ℕ} 0 1 = cc in absurd (omega arith)
first_of P (check true m ∷ cs) h n e = let q : m ≡ n = cc in subst P q h.0
first_of P (check false m ∷ cs) h n e = first_of P cs h.1 n e

-- where all checks pass, each does
pub first_passed : (t : Bool) (n : Refusal) (cs : List Check) → first_refusal (check t n ∷ cs) ≡ Ok tt → (t ≡ false) × (first_refusal cs ≡ Ok tt)
unfolding first_refusal
first_passed true n cs e = let z : ◌≡◌ {A = ℕ} 0 1 = cc in absurd (omega arith)
first_passed false n cs e = (refl, e)

-- the checks alone decide the verdict
module _ {A : Type 0} (a : A) where
  pub first_refused : (n : Refusal) (cs : List Check) → first_refusal cs ≡ Err n → unless cs a ≡ refused n
  unfolding first_refusal unless
  first_refused n [] e = let z : ◌≡◌ {A = ℕ} 0 1 = cc in absurd (omega arith)
  first_refused n (check true m ∷ cs) e = let q : m ≡ n = cc in ap refused q
  first_refused n (check false m ∷ cs) e = first_refused n cs e

  pub first_all : (cs : List Check) → first_refusal cs ≡ Ok tt → unless cs a ≡ passed a
  unfolding first_refusal unless
  first_all [] e = refl
  first_all (check true m ∷ cs) e = let z : ◌≡◌ {A = ℕ} 0 1 = cc in absurd (omega arith)
  first_all (check false m ∷ cs) e = first_all cs e
