-- The promise of a function that prints: how it is reached, and what follows from it.
use Rattle.std.specs.Prelude.{ℕ, ◌≡◌, List, length, take, drop}
use Rattle.std.proofs.Common.{sym, ap, ◌∙◌, subst, arith, drop_at}
use Rattle.lists.proofs.WrittenLaws.{take_written, written_fits}
use Rattle.lists.specs.Memory.{written, Wrote}
use Rattle.sheet_read.specs.Promise.{Answers}

module _ (Printed : List ℕ → Type 0) (bytes out out' : List ℕ) (answer : ℕ) where
  pub answers : Printed bytes → Wrote bytes out out' answer → Answers Printed out out' answer
  answers is wrote =
      let e = wrote.count in
      record {
        bytes = bytes;
        is = is;
        wrote = wrote;
        within = omega (arith, ap length wrote.memory, written_fits bytes out);
        counted = e ∙ ap length (sym (ap (take answer) wrote.memory ∙ take_written bytes out answer e));
      }

-- what follows from the promised is promised too
pub answers_as :
    (P Q : List ℕ → Type 0) (out out' : List ℕ) (answer : ℕ) → ((bytes : List ℕ) → P bytes → Q bytes) → Answers P out out' answer
    → Answers Q out out' answer
answers_as P Q out out' answer f a =
    record { bytes = a.bytes; is = f a.bytes a.is; wrote = a.wrote; within = a.within; counted = a.counted }

-- the first bytes of the output memory, as many as the answer says, are what is printed; after them it is as it was
pub answers_printed :
    (P : List ℕ → Type 0) (out out' : List ℕ) (answer : ℕ) → Answers P out out' answer → P (take answer out') × (drop answer out' ≡ drop answer out)
unfolding written
answers_printed P out out' answer a =
    let w = a.wrote in (
      subst P (sym (ap (take answer) w.memory ∙ take_written a.bytes out answer w.count)) a.is,
      ap (drop answer) w.memory ∙ drop_at a.bytes (drop (length a.bytes) out) answer (sym w.count) ∙ ap (λ n. drop n out) (sym w.count),
    )
