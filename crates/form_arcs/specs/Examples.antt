-- A form of three letters, of which letter 2 shares the arcs of letter 1. For the reader: nothing uses it.
use Rattle.std.specs.Prelude.{ℕ, zero, suc, ◌+◌, ◌<◌, ◌≡◌, refl, List, [], ◌∷◌, get_or}
use Rattle.std.proofs.Common.{arith}
use Rattle.automaton.specs.Form.{target}
use Rattle.form_arcs.specs.Equal.{Shares}

-- letters 1 and 2 have an arc to letter 3, and letter 3 has one to letter 1
abbrev three : List ℕ
three = 268566531 ∷ 536871169 ∷ 536871170 ∷ 536871425 ∷ 805306627 ∷ 805306883 ∷ 805307137 ∷ []

-- where the arcs of 0 to 4 start
abbrev starts : List ℕ
starts = 4 ∷ 4 ∷ 5 ∷ 6 ∷ 7 ∷ []

record Examples : Type 0 where
  second : Shares three starts 2
  not_third : Shares three starts 3 → ⊥
  not_first : Shares three starts 1 → ⊥

same : (k : ℕ) → k < 1 → target (get_or three (get_or starts 1 0 + k) 0) ≡ target (get_or three (get_or starts 2 0 + k) 0)
same zero h = refl
same (suc k) h = absurd (omega arith)

examples : Examples
examples =
    record {
      second = (omega arith, omega arith, (refl, same));
      not_third = λ q. let e : ◌≡◌ {A = ℕ} 3 1 = q.2.1 0 (omega arith) in omega arith;
      not_first = λ q. let h = q.0 in omega arith;
    }
