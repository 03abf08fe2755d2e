-- Laws: the two cases of `Checks`, an input that is refused and one that passes.
use Rattle.std.specs.Prelude.{◌≡◌, refl, Result, Ok, Err}
use Rattle.refusal.specs.declared.Refusal.{Refusal}
use Rattle.refusal.specs.Checks.{Checks}

module _ {Memory Answer : Type 0} (turned_away : Refusal → Answer) (c : Result (Unit {0}) Refusal) (Passes : (before after : Memory) (answer : Answer) → Type 0) where
  pub checks_refused : (n : Refusal) (memory : Memory) → c ≡ Err n → Checks turned_away c Passes memory memory (turned_away n)
  checks_refused n memory e = rw e (refl, refl)

  pub checks_passed : (before after : Memory) (answer : Answer) → c ≡ Ok tt → Passes before after answer → Checks turned_away c Passes before after answer
  checks_passed before after answer e h = rw e h
