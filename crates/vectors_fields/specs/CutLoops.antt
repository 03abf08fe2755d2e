-- The pieces of a text by the places of its separators, for the loop that goes from one separator to the next.
use Rattle.std.specs.Prelude.{◌≡◌, Bool, drop, eqb}
use Rattle.std.proofs.Math.Path.{refl, sym, ap}
use Rattle.std.proofs.Common.{◌∙◌, arith, drop-drop}
use mathlib.Core.List.{List, [], ◌∷◌}
use Rattle.std.proofs.Math.Bool.{true, false, cond}
use Prim.Native.Nat.{ℕ, suc, ◌+◌, ◌-◌, ◌<◌, ◌≤◌}
use Rattle.std.proofs.Math.ListN.{length, get_or, take, length-drop}
use Rattle.lists.proofs.EachLaws.{drop_all}
use Rattle.text.specs.Places.{until}
use Rattle.text_lines.specs.Lines.{pieces, onto}

pub until_within : (c : ℕ) (s : List ℕ) → until c s ≤ length s
unfolding until
until_within c [] = omega arith
until_within c (b ∷ s) = by (eqb b c) (until_within c s)
  where
    by : (t : Bool) → until c s ≤ length s → cond t 0 (suc (until c s)) ≤ suc (length s)
    by true h = omega arith
    by false h = omega arith

-- the next separator from a place on, or the text's end, is within the text
pub next_within : (c : ℕ) (text : List ℕ) (at : ℕ) → at ≤ length text → at + until c (drop at text) ≤ length text
next_within c text at h = let l = length-drop at text in let w = until_within c (drop at text) in omega arith

onto_first : (b : ℕ) (ps : List (List ℕ)) → get_or (onto b ps) 0 [] ≡ b ∷ get_or ps 0 []
unfolding onto
onto_first b [] = refl
onto_first b (p ∷ ps) = refl

onto_others : (b : ℕ) (ps : List (List ℕ)) (k : ℕ) → get_or (onto b ps) (suc k) [] ≡ get_or ps (suc k) []
unfolding onto
onto_others b [] k = refl
onto_others b (p ∷ ps) k = refl

module _ (c : ℕ) where
  -- the first piece ends at the first separator
  pub pieces_first : (s : List ℕ) → get_or (pieces c s) 0 [] ≡ take (until c s) s
  unfolding pieces until
  pieces_first [] = refl
  pieces_first (b ∷ s) = by (eqb b c) (pieces_first s)
    where
      by :
          (t : Bool) → get_or (pieces c s) 0 [] ≡ take (until c s) s
          → get_or (cond t ([] ∷ pieces c s) (onto b (pieces c s))) 0 [] ≡ take (cond t 0 (suc (until c s))) (b ∷ s)
      by true h = refl
      by false h = onto_first b (pieces c s) ∙ ap (λ p. b ∷ p) h

  -- the others are those of the text after it
  pub pieces_others :
      (s : List ℕ) (k : ℕ) → until c s < length s → get_or (pieces c s) (suc k) [] ≡ get_or (pieces c (drop (suc (until c s)) s)) k []
  unfolding pieces until
  pieces_others [] k l = absurd (omega arith)
  pieces_others (b ∷ s) k l = by (eqb b c) l (pieces_others s k)
    where
      by :
          (t : Bool) → cond t 0 (suc (until c s)) < suc (length s)
          → (until c s < length s → get_or (pieces c s) (suc k) [] ≡ get_or (pieces c (drop (suc (until c s)) s)) k [])
          → get_or (cond t ([] ∷ pieces c s) (onto b (pieces c s))) (suc k) [] ≡ get_or (pieces c (drop (cond t 0 (suc (until c s))) s)) k []
      by true l h = refl
      by false l h = onto_others b (pieces c s) k ∙ h (omega arith)

  -- a text without separators is one piece
  pub pieces_one : (s : List ℕ) (k : ℕ) → length s ≤ until c s → get_or (pieces c s) (suc k) [] ≡ []
  unfolding pieces until
  pieces_one [] k l = refl
  pieces_one (b ∷ s) k l = by (eqb b c) l (pieces_one s k)
    where
      by :
          (t : Bool) → suc (length s) ≤ cond t 0 (suc (until c s)) → (length s ≤ until c s → get_or (pieces c s) (suc k) [] ≡ [])
          → get_or (cond t ([] ∷ pieces c s) (onto b (pieces c s))) (suc k) [] ≡ []
      by true l h = absurd (omega arith)
      by false l h = onto_others b (pieces c s) k ∙ h (omega arith)

  -- The loop: piece k - i is wanted of the text from `at` on, and the next separator is at e.
  module _ (text : List ℕ) (at e k i : ℕ) (is : e ≡ at + until c (drop at text)) (more : i < k) where
    left : k - i ≡ suc (k - (i + 1))
    left = omega arith

    pub cut_further : e < length text → get_or (pieces c (drop (e + 1) text)) (k - (i + 1)) [] ≡ get_or (pieces c (drop at text)) (k - i) []
    cut_further l =
        let n = length-drop at text in
        let d : at + suc (until c (drop at text)) ≡ e + 1 = omega arith in
        sym
        (ap (λ j. get_or (pieces c (drop at text)) j []) left
        ∙ pieces_others (drop at text) (k - (i + 1)) (omega arith)
        ∙ ap (λ s. get_or (pieces c s) (k - (i + 1)) []) (drop-drop _ at text ∙ ap (λ (j : ℕ). drop j text) d))

    pub cut_ends : at ≤ length text → length text ≤ e → get_or (pieces c (drop e text)) 0 [] ≡ get_or (pieces c (drop at text)) (k - i) []
    unfolding pieces
    cut_ends h l =
        let n = length-drop at text in
        ap (λ s. get_or (pieces c s) 0 []) (drop_all text e l)
        ∙ sym (ap (λ j. get_or (pieces c (drop at text)) j []) left ∙ pieces_one (drop at text) (k - (i + 1)) (omega arith))
