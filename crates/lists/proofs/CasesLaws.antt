-- Laws of the first case that holds, and of an option provided that a test holds.
use Rattle.std.specs.Prelude.{◌≡◌, [], ◌∷◌, Bool, cond, ◌&&◌}
use Rattle.std.proofs.Math.Path.{refl}
use Rattle.std.proofs.Math.Option.{Option, none}
use Rattle.std.proofs.Math.Bool.{true, false}
use Rattle.lists.specs.Cases.{first_of, when, provided}

-- after three cases that do not hold, the fourth decides
pub fourth :
    {R : Type 0} (t₁ t₂ t₃ t₄ : Bool) (a₁ a₂ a₃ a₄ d : R) → t₁ ≡ false → t₂ ≡ false → t₃ ≡ false →
    first_of (when t₁ a₁ ∷ (when t₂ a₂ ∷ (when t₃ a₃ ∷ (when t₄ a₄ ∷ [])))) d ≡ cond t₄ a₄ d
unfolding first_of
fourth t₁ t₂ t₃ true a₁ a₂ a₃ a₄ d e₁ e₂ e₃ = rw (e₁, e₂, e₃)
fourth t₁ t₂ t₃ false a₁ a₂ a₃ a₄ d e₁ e₂ e₃ = rw (e₁, e₂, e₃)

module _ {X : Type 0} where
  pub provided_true : (t : Bool) (x : Option X) → t ≡ true → provided t x ≡ x
  unfolding provided
  provided_true t x e = rw e

  pub provided_false : (t : Bool) (x : Option X) → t ≡ false → provided t x ≡ none
  unfolding provided
  provided_false t x e = rw e

  pub provided_none : (t : Bool) → provided {X = X} t none ≡ none
  unfolding provided
  provided_none true = refl
  provided_none false = refl

  pub provided_both : (a b : Bool) (x : Option X) → provided a (provided b x) ≡ provided (a && b) x
  unfolding provided
  provided_both true b x = refl
  provided_both false b x = refl
