-- Spread (document 01, "Alphabet, labels, paths"): one blank between each two equal neighbours and nowhere else. It gives a
-- shortest path that collapses to the word.
use Rattle.std.specs.Prelude.{ℕ, ◌+◌, ◌≤◌, ◌≡◌, Bool, true, false, cond, List, [], ◌∷◌, length, eqb}
use Rattle.ctc.specs.Collapse.{collapse}

-- path p, with a blank before it if the test holds
abbrev pub parted : Bool → List ℕ → List ℕ
parted true p = 0 ∷ p
parted false p = p

unfoldable pub spread : List ℕ → List ℕ
spread [] = []
spread (x ∷ []) = x ∷ []
spread (x ∷ (y ∷ w)) = x ∷ parted (eqb x y) (spread (y ∷ w))

-- the number of pairs of equal neighbours
unfoldable pub pairs : List ℕ → ℕ
pairs [] = 0
pairs (x ∷ []) = 0
pairs (x ∷ (y ∷ w)) = cond (eqb x y) 1 0 + pairs (y ∷ w)

-- p is a shortest path that collapses to the word
pub record Shortest (w p : List ℕ) : Type 0 where
  pub collapses : collapse p ≡ w
  pub shortest : (q : List ℕ) → collapse q ≡ w → length p ≤ length q
