-- One column of the trace through extended states: the reached states that lie on a cheapest path, the lowest label among them, and that
-- these are what the trace chooses.
use Rattle.std.specs.Prelude.{ℕ, ◌+◌, ◌*◌, ◌%◌, ◌≤◌, ◌≡◌}
use Rattle.std.proofs.Common.{sym, ap, ◌∙◌, subst, arith, eq-eqb, ne_eqb}
use Rattle.automaton.specs.Automaton.{Automaton}
use Rattle.automaton.specs.Proper.{Proper}
use Rattle.matrix.specs.Matrix.{Matrix, cost}
use Rattle.trellis.specs.Impossible.{plus}
use Rattle.trellis.specs.CostToGo.{CostToGo}
use Rattle.trellis.proofs.Tight.{Tight, Chosen}
use Rattle.trellis.proofs.TraceLaws.{Shared, some_tight}
use Rattle.trellis.specs.Extended.{OnLetter, InBlanks, Step, stay, pass, arc, rest, leave, extended}
use Rattle.trellis.proofs.ExtendedLaws.{step_within}
use Rattle.trellis.specs.Reached.{entering, Reached}

pub entering_blanks : (A : Automaton) (i s : ℕ) → InBlanks i s → entering A s ≡ 0
unfolding entering
entering_blanks A i s o = rw (eq-eqb (s % 2) 0 (omega arith))

pub entering_letter : (A : Automaton) (i s : ℕ) → OnLetter i s → entering A s ≡ A.label i
unfolding entering
entering_letter A i s o = rw (ne_eqb (s % 2) 0 (λ e. omega arith)) (ap A.label (omega arith))

step_entering : (A : Automaton) (s x u : ℕ) → Step A s x u → x ≡ entering A u
step_entering A s x u (stay i o e o') = e ∙ sym (entering_letter A i u o')
step_entering A s x u (pass i o e o') = e ∙ sym (entering_blanks A i u o')
step_entering A s x u (arc i j o f n e o') = e ∙ sym (entering_letter A j u o')
step_entering A s x u (rest i o e o') = e ∙ sym (entering_blanks A i u o')
step_entering A s x u (leave i j o f e o') = e ∙ sym (entering_letter A j u o')

-- the state is reached, and it lies on a cheapest path: the cost of entering it and its cost to go, by the next row, add up to v
abbrev pub Kept : Automaton → Matrix → (t : ℕ) → (row : ℕ → ℕ) → (ℕ → Type 0) → (v u : ℕ) → Type 0
Kept A M t row In v u = Reached A In u × (plus (cost M t (entering A u)) (row u) ≡ v)

-- x is the lowest label of the kept states, and the second set has the kept states of that label
pub record Picked (A : Automaton) (M : Matrix) (t : ℕ) (row : ℕ → ℕ) (In : ℕ → Type 0) (v x : ℕ) (In' : ℕ → Type 0) : Type 0 where
  pub lowest : (u : ℕ) → u ≤ 2 * A.letters → Kept A M t row In v u → x ≤ entering A u
  pub one : ℕ
  pub kept : Kept A M t row In v one
  pub by_x : entering A one ≡ x
  pub hit : (u : ℕ) → In' u → Kept A M t row In v u × (entering A u ≡ x)
  pub all : (u : ℕ) → u ≤ 2 * A.letters → Kept A M t row In v u → entering A u ≡ x → In' u

module _ {k : ℕ} {A : Automaton} (proper : Proper k A) (M : Matrix) (t v : ℕ) (row : ℕ → ℕ) (In : ℕ → Type 0)
    (within : (s : ℕ) → In s → s ≤ 2 * A.letters) where
  tight_kept : (x u : ℕ) → Tight (extended A) M t row In v x u → Kept A M t row In v u × (entering A u ≡ x) × (u ≤ 2 * A.letters)
  tight_kept x u h =
      let e = step_entering A h.from x u h.step in
      let r : Reached A In u = (h.from, h.member, subst (λ y. Step A h.from y u) e h.step) in
      ((r, subst (λ y. plus (cost M t y) (row u) ≡ v) e h.keeps), sym e, step_within proper h.from x u h.step (within h.from h.member))

  kept_tight : (x u : ℕ) → Kept A M t row In v u → entering A u ≡ x → Tight (extended A) M t row In v x u
  kept_tight x u h e =
      record {
        from = h.0.0;
        member = h.0.1;
        step = subst (λ y. Step A h.0.0 y u) e h.0.2;
        keeps = subst (λ y. plus (cost M t y) (row u) ≡ v) e h.1;
      }

  pub picked_chosen : {x : ℕ} {In' : ℕ → Type 0} → Picked A M t row In v x In' → Chosen (extended A) M t row In v x In'
  picked_chosen {x} {In'} p =
      record {
        lowest = λ y u h. let d = tight_kept y u h in let e = d.1 in let l = p.lowest u d.2 d.0 in omega arith;
        one = p.one;
        by_x = kept_tight x p.one p.kept p.by_x;
        hit = λ u i. let h = p.hit u i in kept_tight x u h.0 h.1;
        all = λ u h. let d = tight_kept x u h in p.all u d.2 d.0 d.1;
      }

  module _ (n : ℕ) (next : (s : ℕ) → s ≤ 2 * A.letters → CostToGo (extended A) M (t + 1) n s (row s)) where
    -- every step from the set leads to a state of the next row
    pub next_row : (s : ℕ) → In s → (x u : ℕ) → Step A s x u → CostToGo (extended A) M (t + 1) n u (row u)
    next_row s i x u st = next u (step_within proper s x u st (within s i))

    -- some state is kept
    pub some_kept : Shared (extended A) M t (n + 1) In v → (u : ℕ) × (u ≤ 2 * A.letters) × Kept A M t row In v u
    some_kept sh = let o = some_tight (extended A) M n row sh next_row in let h = tight_kept o.0 o.1 o.2 in (o.1, h.2, h.0)
