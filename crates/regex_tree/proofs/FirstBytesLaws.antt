-- The signs of a bracket, and the name of a class, by the first bytes of a text.
use Rattle.std.specs.Prelude.{◌≡◌, refl, Bool, true, ℕ}
use Rattle.std.proofs.Common.{◌∙◌, arith}
use Rattle.std.proofs.Math.Option.{some, none}
use mathlib.Core.List.{List, [], ◌∷◌, ◌++◌}
use Rattle.std.proofs.Math.Bool.{false}
use Rattle.lists.proofs.CasesLaws.{provided_true, provided_false}
use Rattle.text.specs.Text.{in_front}
use Rattle.regex_tree.specs.Sets.{byte, class, class_begins, class_ends, closes, closed, naming}

branch_true : {X : Type 0} (t : Bool) (x y : X) → t ≡ true → ◌≡◌ {A = X} (elim t [ true ↦ x | false ↦ y ]) x
branch_true true x y e = refl
branch_true false x y e = let z : ◌≡◌ {A = ℕ} 0 1 = cc in absurd (omega arith)

branch_false : {X : Type 0} (t : Bool) (x y : X) → t ≡ false → ◌≡◌ {A = X} (elim t [ true ↦ x | false ↦ y ]) y
branch_false true x y e = let z : ◌≡◌ {A = ℕ} 0 1 = cc in absurd (omega arith)
branch_false false x y e = refl

module _ (first : Bool) (b : ℕ) where
  pub closed_here : (s : List ℕ) → closes first b ≡ true → closed first (b ∷ s) ≡ some ([], s)
  unfolding closed
  closed_here [] e = provided_true (closes first b) (some ([], [])) e
  closed_here (c ∷ s) e = branch_true (closes first b) _ _ e

  pub closed_class : (c : ℕ) (s : List ℕ) → closes first b ≡ false → class_begins b c ≡ true → closed first (b ∷ (c ∷ s)) ≡ naming [] s
  unfolding closed
  closed_class c s e k = branch_false (closes first b) _ _ e ∙ branch_true (class_begins b c) _ _ k

  pub closed_byte :
      (c : ℕ) (s : List ℕ) → closes first b ≡ false → class_begins b c ≡ false →
      closed first (b ∷ (c ∷ s)) ≡ in_front (byte b) (closed false (c ∷ s))
  unfolding closed
  closed_byte c s e k = branch_false (closes first b) _ _ e ∙ branch_false (class_begins b c) _ _ k

  pub closed_last : closes first b ≡ false → closed first (b ∷ []) ≡ none
  unfolding closed
  closed_last e = provided_false (closes first b) (some ([], [])) e

module _ (n : List ℕ) (b c : ℕ) (s : List ℕ) where
  pub naming_here : class_ends b c ≡ true → naming n (b ∷ (c ∷ s)) ≡ in_front (class n) (closed false s)
  unfolding closed
  naming_here e = branch_true (class_ends b c) _ _ e

  pub naming_more : class_ends b c ≡ false → naming n (b ∷ (c ∷ s)) ≡ naming (n ++ (b ∷ [])) (c ∷ s)
  unfolding closed
  naming_more e = branch_false (class_ends b c) _ _ e
