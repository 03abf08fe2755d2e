-- What a call promises that makes its checks first.
use Rattle.std.specs.Prelude.{◌≡◌, Result, Ok, Err}
use Rattle.refusal.specs.declared.Refusal.{Refusal}

-- By what the checks give: a refusal is reported as the call reports refusals, by `turned_away`, and leaves all lent memory as it was. What
-- passes them gets the answer of `Passes`.
module _ {Memory Answer : Type 0} (turned_away : Refusal → Answer) where
  abbrev pub Checks : Result (Unit {0}) Refusal → (Passes : (before after : Memory) (answer : Answer) → Type 0) → (before after : Memory) (answer : Answer) → Type 0
  Checks (Err n) Passes before after answer = (answer ≡ turned_away n) × (after ≡ before)
  Checks (Ok _) Passes before after answer = Passes before after answer
