-- The parser is sound, step by step: what is before the rest is a text of the tree found, and what is before a fault begins one.
use Rattle.std.specs.Prelude.{◌≡◌, List, true}
use Rattle.std.proofs.Math.Path.{refl}
use Prim.Native.Nat.{ℕ, zero, suc}
use Rattle.std.proofs.Common.{arith}
use Rattle.regex_tree.specs.Tree.{Tree}
use Rattle.regex_tree.specs.Parsing.{Parsing}
use Rattle.text.specs.Text.{next, rest}
use Rattle.regex_tree.specs.Sets.{labelled_set}
use Rattle.regex_tree.specs.Repetition.{repeats, repetition}
use Rattle.regex_tree.specs.Parse.{Mode, m_alternation, m_branch, m_piece, m_group, ends, grouped, step, go, measure, parse}
use Rattle.regex_tree.proofs.SaysLaws.{Says, branch_says, then_says}
use Rattle.regex_tree.proofs.OwnSetsLaws.{labelled_set_says}
use Rattle.regex_tree.proofs.OwnCountsLaws.{repetition_says}
use Rattle.regex_tree.proofs.FrontLaws.{Front, Stop, looser, stop_looser, stop_here, stop_beyond, either_front, either_stop, join_front, join_stop, times_front, set_front, group_front, group_stop}

-- A step is sound if those that it calls are.
module _ (A : List ℕ) where
  abbrev pub Sound : (Mode → ℕ → List ℕ → Parsing Tree) → Type 0
  Sound f = (m : Mode) (d : ℕ) (s : List ℕ) → Says (Front A m d s) (Stop A m d s) (f m d s)

  module _ (f : Mode → ℕ → List ℕ → Parsing Tree) (h : Sound f) where
    grouped_sound : (d : ℕ) (s : List ℕ) → next "(" s ≡ true → Says (Front A m_group d s) (Stop A m_group d s) (grouped (f m_alternation) d s)
    unfolding grouped
    grouped_sound zero s k = stop_here A zero m_group s _ s refl
    grouped_sound (suc d) s k =
        then_says _ _ _ (Stop A m_group (suc d) s) (f m_alternation d (rest s)) _ (h m_alternation d (rest s)) (λ n r g. group_stop A d s n r k g)
        (λ t s₁ g. branch_says (Front A m_group (suc d) s) (Stop A m_group (suc d) s) (next ")" s₁) _ _
        (λ e. group_front A d s t s₁ k g e)
        (λ e. group_stop A d s _ s₁ k (stop_beyond A d (rest s) t s₁ _ s₁ m_alternation g refl)))

    step_sound : Sound (step A f)
    unfolding step
    step_sound m_alternation d s =
        then_says _ _ _ (Stop A m_alternation d s) (f m_branch d s) _ (h m_branch d s) (stop_looser A d m_branch m_alternation s (omega arith))
        (λ t s₁ g. branch_says (Front A m_alternation d s) (Stop A m_alternation d s) (next "|" s₁) _ _
        (λ k. then_says _ _ _ (Stop A m_alternation d s) (f m_alternation d (rest s₁)) _ (h m_alternation d (rest s₁))
        (λ n r e. either_stop A d s t s₁ n r g k e) (λ u r e. either_front A d s t s₁ u r g k e))
        (λ k. looser A d m_branch m_alternation s (omega arith) t s₁ g))
    step_sound m_branch d s =
        then_says _ _ _ (Stop A m_branch d s) (f m_piece d s) _ (h m_piece d s) (stop_looser A d m_piece m_branch s (omega arith))
        (λ t s₁ g. branch_says (Front A m_branch d s) (Stop A m_branch d s) (ends s₁) _ _
        (λ k. looser A d m_piece m_branch s (omega arith) t s₁ g)
        (λ k. then_says _ _ _ (Stop A m_branch d s) (f m_branch d s₁) _ (h m_branch d s₁)
        (λ n r e. join_stop A d s t s₁ n r g e) (λ u r e. join_front A d s t s₁ u r g e)))
    step_sound m_piece d s =
        then_says _ _ _ (Stop A m_piece d s) (f m_group d s) _ (h m_group d s) (stop_looser A d m_group m_piece s (omega arith))
        (λ t s₁ g. branch_says (Front A m_piece d s) (Stop A m_piece d s) (repeats s₁) _ _
        (λ k. then_says _ _ _ (Stop A m_piece d s) (repetition s₁) _ (repetition_says s₁)
        (λ n r e. stop_beyond A d s t s₁ n r m_piece (looser A d m_group m_piece s (omega arith) t s₁ g) e) (λ c r e. times_front A d s t s₁ c r g e))
        (λ k. looser A d m_group m_piece s (omega arith) t s₁ g))
    step_sound m_group d s =
        branch_says (Front A m_group d s) (Stop A m_group d s) (next "(" s) _ _ (grouped_sound d s)
        (λ k. then_says _ _ _ (Stop A m_group d s) (labelled_set A s) _ (labelled_set_says A s) (stop_here A d m_group s) (set_front A d s))

  pub go_sound : (k : ℕ) → Sound (go A k)
  unfolding go
  go_sound zero m d s = stop_here A d m s _ s refl
  go_sound (suc k) m d s = step_sound (go A k) (go_sound k) m d s

  pub parse_sound : Sound (parse A)
  unfolding parse
  parse_sound m d s = go_sound (suc (measure m s)) m d s
