-- What is found leaves less text, and so `parse` is the one function that satisfies its equation.
use Rattle.std.specs.Prelude.{◌≡◌, List, [], ◌∷◌, true, length}
use Rattle.std.proofs.Math.Path.{refl}
use Rattle.std.proofs.Common.{sym, ap, ◌∙◌, arith, length-append}
use Prim.Native.Nat.{ℕ, zero, suc, ◌+◌, ◌≤◌, ◌<◌}
use Prim.Native.Char.{Char, code}
use Rattle.regex_tree.specs.Tree.{Tree}
use Rattle.regex_tree.specs.Parsing.{Parsing, found}
use Rattle.text.specs.Text.{next, rest}
use Rattle.regex_tree.specs.Parse.{Mode, m_alternation, m_branch, m_piece, m_group, ends, grouped, step, go, measure, parse}
use Rattle.regex_tree.proofs.SaysLaws.{of_found, then_same, branch_same}
use Rattle.regex_tree.proofs.OwnLaws.{next_is}
use Rattle.regex_tree.proofs.FrontLaws.{text_some, Front, Stop}
use Rattle.regex_tree.proofs.Sound.{Sound, go_sound, parse_sound}

pub rest_length : (s : List ℕ) → length (rest s) ≤ length s
rest_length [] = omega arith
rest_length (b ∷ s) = omega arith

pub rest_less : (c : Char) (s : List ℕ) → next c s ≡ true → length (rest s) < length s
rest_less c s e = let q : length s ≡ length (code c ∷ rest s) = ap length (next_is c s e) in omega arith

module _ (A : List ℕ) where
  forward : (m : Mode) (d : ℕ) (s : List ℕ) (t : Tree) (r : List ℕ) → Front A m d s t r → length r < length s
  forward m d s t r f =
      let e : length s ≡ length f.front + length r = ap length f.splits ∙ length-append f.front r in
      omega (arith, text_some A t d f.front f.text)

  -- what is found leaves less text
  pub parse_forward : (m : Mode) (d : ℕ) (s : List ℕ) (t : Tree) (r : List ℕ) → parse A m d s ≡ found t r → length r < length s
  parse_forward m d s t r e = forward m d s t r (of_found (Front A m d s) (Stop A m d s) (parse A m d s) t r (parse_sound A m d s) e)

  -- a step calls only steps whose measure is less
  module _ (f g : Mode → ℕ → List ℕ → Parsing Tree) (sound : Sound A g) where
    less : (m : Mode) (d : ℕ) (s : List ℕ) (t : Tree) (r : List ℕ) → g m d s ≡ found t r → length r < length s
    less m d s t r e = forward m d s t r (of_found (Front A m d s) (Stop A m d s) (g m d s) t r (sound m d s) e)

    grouped_same :
        (d : ℕ) (s : List ℕ) → ((d : ℕ) → f m_alternation d (rest s) ≡ g m_alternation d (rest s)) →
        grouped (f m_alternation) d s ≡ grouped (g m_alternation) d s
    unfolding grouped
    grouped_same zero s h = refl
    grouped_same (suc d) s h = then_same (f m_alternation d (rest s)) (g m_alternation d (rest s)) _ _ (h d) (λ t s₁ e. refl)

    step_same :
        (m : Mode) (d : ℕ) (s : List ℕ) → ((m' : Mode) (d' : ℕ) (s' : List ℕ) → measure m' s' < measure m s → f m' d' s' ≡ g m' d' s') →
        step A f m d s ≡ step A g m d s
    unfolding step
    step_same m_alternation d s h =
        then_same (f m_branch d s) (g m_branch d s) _ _ (h m_branch d s (omega arith))
        (λ t s₁ e. branch_same (next "|" s₁) _ _ _ _
        (λ k. then_same (f m_alternation d (rest s₁)) (g m_alternation d (rest s₁)) _ _
        (let l = less m_branch d s t s₁ e in let l₁ = rest_length s₁ in h m_alternation d (rest s₁) (omega arith)) (λ u s₂ _. refl))
        (λ k. refl))
    step_same m_branch d s h =
        then_same (f m_piece d s) (g m_piece d s) _ _ (h m_piece d s (omega arith))
        (λ t s₁ e. branch_same (ends s₁) _ _ _ _ (λ k. refl)
        (λ k. then_same (f m_branch d s₁) (g m_branch d s₁) _ _ (let l = less m_piece d s t s₁ e in h m_branch d s₁ (omega arith)) (λ u s₂ _. refl)))
    step_same m_piece d s h = then_same (f m_group d s) (g m_group d s) _ _ (h m_group d s (omega arith)) (λ t s₁ e. refl)
    step_same m_group d s h =
        branch_same (next "(" s) _ _ _ _
        (λ k. grouped_same d s (λ d'. let l = rest_less "(" s k in h m_alternation d' (rest s) (omega arith)))
        (λ k. refl)

  -- every depth above the measure gives the same answer
  enough : (k k' : ℕ) (m : Mode) (d : ℕ) (s : List ℕ) → measure m s < k → measure m s < k' → go A k m d s ≡ go A k' m d s
  unfolding go
  enough zero k' m d s h h' = absurd (omega arith)
  enough (suc k) zero m d s h h' = absurd (omega arith)
  enough (suc k) (suc k') m d s h h' =
      step_same (go A k) (go A k') (go_sound A k') m d s (λ m' d' s' l. enough k k' m' d' s' (omega arith) (omega arith))

  -- The equation: `parse` is one step over itself.
  pub parse_step : (m : Mode) (d : ℕ) (s : List ℕ) → parse A m d s ≡ step A (parse A) m d s
  unfolding parse go
  parse_step m d s =
      step_same (go A (measure m s)) (parse A) (parse_sound A) m d s (λ m' d' s' l. enough (measure m s) (suc (measure m' s')) m' d' s' l (omega arith))

  -- No other function satisfies it.
  pub only_parse :
      (f : Mode → ℕ → List ℕ → Parsing Tree) → ((m : Mode) (d : ℕ) (s : List ℕ) → f m d s ≡ step A f m d s) →
      (m : Mode) (d : ℕ) (s : List ℕ) → f m d s ≡ parse A m d s
  only_parse f h m d s = by (suc (measure m s)) m d s (omega arith)
    where
      by : (k : ℕ) (m : Mode) (d : ℕ) (s : List ℕ) → measure m s < k → f m d s ≡ parse A m d s
      by zero m d s l = absurd (omega arith)
      by (suc k) m d s l = h m d s ∙ step_same f (parse A) (parse_sound A) m d s (λ m' d' s' l'. by k m' d' s' (omega arith)) ∙ sym (parse_step m d s)
