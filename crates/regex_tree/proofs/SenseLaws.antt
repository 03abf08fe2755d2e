-- The tree of a text has a label in each set and counts in range, and so at least one letter. Its letters may be counted up to 128 at each
-- sum and product.
use Rattle.std.specs.Prelude.{◌≡◌, ◌⊎◌, List, [], ℕ, zero, suc, ◌+◌, ◌*◌, ◌≤◌, ◌<◌}
use Rattle.std.proofs.Common.{ap, ◌∙◌, inl, inr, mul-le-mul_left}
use native.Mathlib.Omega.{arith}
use Rattle.std.proofs.Math.Nat.{mul-le-mul_right}
use Rattle.lists.proofs.OrderLaws.{lt_or_le}
use Rattle.regex_tree.specs.Tree.{Count, between, onward, Tree, set, group, times, join, either}
use Rattle.regex_tree.specs.Letters.{labels_of, copies_of, letter_count}
use Rattle.regex_tree.specs.Sets.{labelled_set}
use Rattle.regex_tree.specs.Repetition.{repetition}
use Rattle.regex_tree.specs.Grammar.{TextOf}
use Rattle.regex_tree.proofs.SaysLaws.{of_found}
use Rattle.regex_tree.proofs.OwnLaws.{Here}
use Rattle.regex_tree.proofs.OwnSetsLaws.{ASet, labelled_set_says}
use Rattle.regex_tree.proofs.OwnCountsLaws.{InRange, Repeating, repetition_says}
use Rattle.regex_tree.specs.Few.{few}

abbrev pub Sensible : List ℕ → Tree → Type 0
Sensible A (set c) = 1 ≤ labels_of A c
Sensible A (group r) = Sensible A r
Sensible A (times r c) = Sensible A r × InRange c
Sensible A (join r s) = Sensible A r × Sensible A s
Sensible A (either r s) = Sensible A r × Sensible A s

-- a repetition opens into at least one copy
pub copies_some : (c : Count) → InRange c → 1 ≤ copies_of c
copies_some (between n m) h = h.1
copies_some (onward zero) h = omega arith
copies_some (onward (suc n)) h = omega arith

module _ (A : List ℕ) where
  -- the tree of a text is sensible
  pub sensible : (t : Tree) (d : ℕ) (s : List ℕ) → TextOf A d t s → Sensible A t
  sensible (set c) d s h = (of_found (ASet A s) (Here s) (labelled_set A s) c [] (labelled_set_says A s) h).1
  sensible (group r) zero s h = absurd h
  sensible (group r) (suc d) s h = sensible r d h.0 h.2
  sensible (times r c) d s h =
      (sensible r d h.0 h.3, (of_found (Repeating h.1) (Here h.1) (repetition h.1) c [] (repetition_says h.1) h.5).in_range)
  sensible (join r t) d s h = (sensible r d h.0 h.3, sensible t d h.1 h.5)
  sensible (either r t) d s h = (sensible r d h.0 h.3, sensible t d h.1 h.5)

  -- and has a letter
  pub letters_some : (t : Tree) → Sensible A t → 1 ≤ letter_count A t
  unfolding letter_count
  letters_some (set c) h = h
  letters_some (group r) h = letters_some r h
  letters_some (times r c) h =
      let l = letters_some r h.0 in let k = copies_some c h.1 in omega (arith, mul-le-mul_right (letter_count A r) k)
  letters_some (join r s) h = let l = letters_some r h.0 in omega arith
  letters_some (either r s) h = let l = letters_some r h.0 in omega arith

pub few_add : (a b : ℕ) → few (few a + few b) ≡ few (a + b)
few_add a b = omega arith

pub few_mul : (k n : ℕ) → 1 ≤ k → few (k * few n) ≡ few (k * n)
few_mul k n h = by (lt_or_le n 128)
  where
    by : (n < 128) ⊎ (128 ≤ n) → few (k * few n) ≡ few (k * n)
    by (inl l) = let e : few n ≡ n = omega arith in ap (λ (x : ℕ). few (k * x)) e
    by (inr g) =
        let e : few n ≡ 128 = omega arith in
        let l₁ : 1 * 128 ≤ k * 128 = mul-le-mul_right 128 h in
        let l₂ : k * 128 ≤ k * n = mul-le-mul_left k g in
        ap (λ (x : ℕ). few (k * x)) e ∙ omega arith
