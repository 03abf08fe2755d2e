-- Blanks on a cheapest path: they are the kept states whose label is the blank.
use Rattle.std.specs.Prelude.{ℕ, ◌+◌, ◌*◌, ◌/◌, ◌≤◌, ◌≡◌, List, get_or}
use Rattle.std.proofs.Common.{sym, ap, ◌∙◌, inl, inr, arith}
use Rattle.automaton.specs.Automaton.{Automaton}
use Rattle.automaton.specs.Proper.{Proper}
use Rattle.trellis.specs.Impossible.{plus}
use Rattle.trellis.specs.Extended.{Step, stay, pass, arc, rest, leave}
use Rattle.trellis.proofs.ExtendedLaws.{AtLetter, at_letter}
use Rattle.trellis.specs.Reached.{entering}
use Rattle.trellis.proofs.ReachedLaws.{entering_blanks}
use Rattle.trellis_steps.specs.Steps.{ColumnReady, KeptOf, Within}
use Rattle.trellis_column.specs.Column.{blank_after, Blanks, BlanksInside, OfLabel}

-- the blanks after a state of the form are a state of the form
pub blanks_inside : {f column row : List ℕ} {v : ℕ} (In : ℕ → Type 0) → ColumnReady f column row v → Within f In → BlanksInside row In
blanks_inside In z w s i = let h = w s i in let l = z.long in let few = z.valid.head.letters_high in (omega arith, omega arith)

module _ {k : ℕ} {A : Automaton} (proper : Proper k A) (column row : List ℕ) (v : ℕ) (In : ℕ → Type 0)
    (within : (s : ℕ) → In s → s ≤ 2 * A.letters) where
  -- a step leads from every state to the blanks after it
  to_blanks : (s u : ℕ) → u ≡ blank_after s → AtLetter ((s + 1) / 2) s → entering A u ≡ 0 → Step A s (entering A u) u
  to_blanks s u e (inl o) z = pass ((s + 1) / 2) o z (omega arith)
  to_blanks s u e (inr o) z = rest ((s + 1) / 2) o z (omega arith)

  -- a step by the blank leads there only: letters have other labels
  only_blanks : (s u : ℕ) → s ≤ 2 * A.letters → Step A s (entering A u) u → entering A u ≡ 0 → u ≡ blank_after s
  only_blanks s u h (stay i o e o') z = let l = (proper.labelled i (omega arith) (omega arith)).0 in absurd (omega arith)
  only_blanks s u h (pass i o e o') z = omega arith
  only_blanks s u h (arc i j o f n e o') z =
      let t = proper.target i j f in let l = (proper.labelled j t.0 t.1).0 in absurd (omega arith)
  only_blanks s u h (rest i o e o') z = omega arith
  only_blanks s u h (leave i j o f e o') z =
      let t = proper.target i j f in let l = (proper.labelled j t.0 t.1).0 in absurd (omega arith)

  -- the blanks after the states of the set that lie on a cheapest path are the kept states whose label is the blank
  pub blanks_kept : (u : ℕ) → Blanks column row v In u → OfLabel A 0 (KeptOf A column row v In) u
  blanks_kept u (s, i, e, p) =
      let z : entering A u ≡ 0 = entering_blanks A ((s + 1) / 2) u (omega arith) in
      (((s, i, to_blanks s u e (at_letter s) z), ap (λ x. plus (get_or column x 0) (get_or row u 0)) z ∙ p), z)

  pub kept_blanks : (u : ℕ) → KeptOf A column row v In u → entering A u ≡ 0 → Blanks column row v In u
  kept_blanks u ((s, i, o), p) z = (s, i, only_blanks s u (within s i) o z, ap (λ x. plus (get_or column x 0) (get_or row u 0)) (sym z) ∙ p)
