-- The fold that tests every element, without an early exit: the tests so far and the rest of the list decide.
use Rattle.std.specs.Prelude.{ℕ, ◌+◌, ◌<◌, ◌≤◌, ◌≡◌, Bool, ◌&&◌, List, [], ◌∷◌, length, get_or, drop}
use Rattle.std.specs.List.{fold}
use Rattle.std.proofs.Common.{sym, ap, ◌∙◌}
use Rattle.std.proofs.Math.Bool.{and_assoc, and-true}
use Rattle.lists.proofs.EachLaws.{drop_here, drop_all}
use Rattle.lists.specs.Each.{all}

pub fold_all : (p : ℕ → Bool) (b : Bool) (xs : List ℕ) → fold (λ pass x. pass && p x) b xs ≡ (b && all p xs)
fold_all p b [] = sym (and-true b)
fold_all p b (x ∷ xs) = fold_all p (b && p x) xs ∙ and_assoc b (p x) (all p xs)

-- The same for a loop at index i.
module _ (p : ℕ → Bool) (xs : List ℕ) (so_far : Bool) (i : ℕ) (decide : (so_far && all p (drop i xs)) ≡ all p xs) where
  pub decide_more : i < length xs → (so_far && p (get_or xs i 0) && all p (drop (i + 1) xs)) ≡ all p xs
  decide_more l = and_assoc so_far (p (get_or xs i 0)) (all p (drop (i + 1) xs)) ∙ ap (λ rest. so_far && all p rest) (sym (drop_here 0 xs i l)) ∙ decide

  pub decide_end : length xs ≤ i → so_far ≡ all p xs
  decide_end l = sym (ap (λ rest. so_far && all p rest) (drop_all xs i l) ∙ and-true so_far) ∙ decide
