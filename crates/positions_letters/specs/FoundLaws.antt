-- What `counted` finds with a repetition and without, and what `then` finds in two steps.
use Rattle.std.specs.Prelude.{◌≡◌, List, true, false, ℕ}
use Rattle.std.proofs.Math.Path.{refl}
use Rattle.std.proofs.Common.{ap, arith}
use Rattle.regex_tree.specs.Tree.{between}
use Rattle.regex_tree.specs.Parsing.{Parsing, found, fault, then}
use Rattle.regex_tree.specs.Repetition.{repeats, repetition}
use Rattle.regex_bracket.specs.Answers.{is_found}
use Rattle.positions_letters.specs.Found.{found_or, rest_of, repetition_if, counted}

pub counted_repeated : (s : List ℕ) → repeats s ≡ true → counted s ≡ repetition s
unfolding counted
counted_repeated s k = ap (λ b. repetition_if b s) k

pub counted_plain : (s : List ℕ) → repeats s ≡ false → counted s ≡ found (between 1 1) s
unfolding counted
counted_plain s k = ap (λ b. repetition_if b s) k

pub not_found : {P : Type 0} → false ≡ true → P
not_found e = let z : ◌≡◌ {A = ℕ} 0 1 = cc in absurd (omega arith)

-- what `then` found was found after a first part
module _ {X Y : Type 0} (f : X → List ℕ → Parsing Y) where
  pub then_first : (x : Parsing X) → is_found (then x f) ≡ true → is_found x ≡ true
  unfolding then
  then_first (found a r) h = refl
  then_first (fault n r) h = h

  pub then_is : (d : X) (x : Parsing X) → is_found x ≡ true → then x f ≡ f (found_or d x) (rest_of x)
  unfolding then
  then_is d (found a r) h = refl
  then_is d (fault n r) h = not_found h
