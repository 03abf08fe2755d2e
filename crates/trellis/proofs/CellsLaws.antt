-- Laws: each cell of the table of costs to go, from the cells of the next row.
use Rattle.std.specs.Prelude.{ℕ, ◌+◌, ◌*◌, ◌-◌, ◌≤◌, min, ◌≡◌, refl, Bool, true, false, ◌⊎◌}
use Rattle.std.proofs.Common.{sym, ap, ap₂, ◌∙◌, inl, inr, ⊎_elim, arith}
use Rattle.lists.proofs.OrderLaws.{not_both}
use Rattle.lists.proofs.LeastLaws.{least_one, least_either, least_same}
use Rattle.lists.specs.Least.{Least}
use Rattle.automaton.specs.Automaton.{Automaton}
use Rattle.automaton.specs.Proper.{Proper}
use Rattle.matrix.specs.Matrix.{Matrix, cost}
use Rattle.trellis.specs.Impossible.{TOP, plus}
use Rattle.trellis.specs.CostToGo.{CostToGo}
use Rattle.trellis.proofs.CostToGoLaws.{togo_ends, togo_never, Onward, togo_step}
use Rattle.trellis.specs.Extended.{OnLetter, Step, stay, pass, arc, rest, leave, extended}
use Rattle.trellis.proofs.ExtendedLaws.{AtLetter, may_end, step_within}
use Rattle.trellis.specs.Cells.{ending, ByArc}

-- a cell of the last row
pub last_cell : (A : Automaton) (M : Matrix) (t i s : ℕ) → AtLetter i s → CostToGo (extended A) M t 0 s (ending (A.ends i))
last_cell A M t i s o = by (A.ends i) refl
  where
    by : (b : Bool) → A.ends i ≡ b → CostToGo (extended A) M t 0 s (ending b)
    by true e = togo_ends (extended A) M t s ((may_end A i s o).1 e)
    by false e = togo_never (extended A) M t s (λ m. not_both (A.ends i) ((may_end A i s o).0 m) e)

module _ {k : ℕ} {A : Automaton} (proper : Proper k A) (M : Matrix) (t n : ℕ) (row offer : ℕ → ℕ)
    (next : (s : ℕ) → s ≤ 2 * A.letters → CostToGo (extended A) M (t + 1) n s (row s))
    (offers : (j : ℕ) → 1 ≤ j → j ≤ A.letters → offer j ≡ plus (cost M t (A.label j)) (row (2 * j - 1))) where
  same : (v x s y u : ℕ) → v ≡ plus (cost M t x) (row s) → x ≡ y → s ≡ u → v ≡ plus (cost M t y) (row u)
  same v x s y u h e d = h ∙ ap₂ (λ y u. plus (cost M t y) (row u)) e d

  -- the price of a step to letter j is what it offers
  by_offer : (i j x s v : ℕ) → A.follow i j ≡ true → x ≡ A.label j → OnLetter j s → v ≡ plus (cost M t x) (row s) → v ≡ offer j
  by_offer i j x s v f e o h =
      let b = proper.target i j f in
      same v x s (A.label j) (2 * j - 1) h e (omega arith) ∙ sym (offers j b.0 b.1)

  on_target : (i j : ℕ) → A.follow i j ≡ true → OnLetter j (2 * j - 1) × (offer j ≡ plus (cost M t (A.label j)) (row (2 * j - 1))) × (1 ≤ A.label j)
  on_target i j f = let b = proper.target i j f in (omega arith, offers j b.0 b.1, (proper.labelled j b.0 b.1).0)

  from_row : (s : ℕ) {v : ℕ} → s ≤ 2 * A.letters → Least TOP (Onward (extended A) M t row s) v → CostToGo (extended A) M t (n + 1) s v
  from_row s h l = togo_step (extended A) M t n row s (λ x s' st. next s' (step_within proper s x s' st h)) l

  -- the cell in the blanks after letter i, or of state 0
  pub blanks_cell :
      (i m : ℕ) → i ≤ A.letters → Least TOP (ByArc A offer i 0) m
      → CostToGo (extended A) M t (n + 1) (2 * i) (min (plus (cost M t 0) (row (2 * i))) m)
  blanks_cell i m h l =
      from_row (2 * i) (omega arith)
      (least_same (Onward (extended A) M t row (2 * i)) (λ v. ⊎_elim (λ e. (0, 2 * i, rest i refl refl refl, e)) (go v)) (λ v o. split v o.0 o.1 o.2 o.3)
      (least_either (least_one (plus (cost M t 0) (row (2 * i))) (omega arith)) l))
    where
      go : (v : ℕ) → ByArc A offer i 0 v → Onward (extended A) M t row (2 * i) v
      go v o = let j = o.0 in let b = on_target i j o.1 in (A.label j, 2 * j - 1, leave i j refl o.1 refl b.0, o.3 ∙ b.1)

      split : (v x s : ℕ) → Step A (2 * i) x s → v ≡ plus (cost M t x) (row s) → (v ≡ plus (cost M t 0) (row (2 * i))) ⊎ ByArc A offer i 0 v
      split v x s (stay i' o e o') h = absurd (omega arith)
      split v x s (pass i' o e o') h = absurd (omega arith)
      split v x s (arc i' j o f d e o') h = absurd (omega arith)
      split v x s (rest i' o e o') h = inl (same v x s 0 (2 * i) h e (omega arith))
      split v x s (leave i' j o f e o') h =
          let q : i' ≡ i = omega arith in
          let b = (on_target i' j f).2 in
          inr (j, rw q at f, λ z. omega arith, by_offer i' j x s v f e o' h)

  -- the cell on letter i
  pub letter_cell :
      (i m : ℕ) → 1 ≤ i → i ≤ A.letters → Least TOP (ByArc A offer i (A.label i)) m
      → CostToGo (extended A) M t (n + 1) (2 * i - 1) (min (min (plus (cost M t (A.label i)) (row (2 * i - 1))) (plus (cost M t 0) (row (2 * i)))) m)
  letter_cell i m h₁ h l =
      from_row (2 * i - 1) (omega arith)
      (least_same (Onward (extended A) M t row (2 * i - 1)) (λ v. ⊎_elim (held v) (go v)) (λ v o. split v o.0 o.1 o.2 o.3)
      (least_either (least_either (least_one (plus (cost M t (A.label i)) (row (2 * i - 1))) (omega arith)) (least_one (plus (cost M t 0) (row (2 * i))) (omega arith))) l))
    where
      on : OnLetter i (2 * i - 1)
      on = omega arith

      Held : ℕ → Type 0
      Held v = (v ≡ plus (cost M t (A.label i)) (row (2 * i - 1))) ⊎ (v ≡ plus (cost M t 0) (row (2 * i)))

      held : (v : ℕ) → Held v → Onward (extended A) M t row (2 * i - 1) v
      held v (inl e) = (A.label i, 2 * i - 1, stay i on refl on, e)
      held v (inr e) = (0, 2 * i, pass i on refl refl, e)

      go : (v : ℕ) → ByArc A offer i (A.label i) v → Onward (extended A) M t row (2 * i - 1) v
      go v o = let j = o.0 in let b = on_target i j o.1 in (A.label j, 2 * j - 1, arc i j on o.1 (λ z. o.2 (sym z)) refl b.0, o.3 ∙ b.1)

      split : (v x s : ℕ) → Step A (2 * i - 1) x s → v ≡ plus (cost M t x) (row s) → Held v ⊎ ByArc A offer i (A.label i) v
      split v x s (stay i' o e o') h = let q : i' ≡ i = omega arith in inl (inl (same v x s (A.label i) (2 * i - 1) h (e ∙ ap A.label q) (omega arith)))
      split v x s (pass i' o e o') h = inl (inr (same v x s 0 (2 * i) h e (omega arith)))
      split v x s (arc i' j o f d e o') h =
          let q : i' ≡ i = omega arith in
          inr (j, rw q at f, λ z. d (ap A.label q ∙ sym z), by_offer i' j x s v f e o' h)
      split v x s (rest i' o e o') h = absurd (omega arith)
      split v x s (leave i' j o f e o') h = absurd (omega arith)
