-- The verdict of a call on its input: the first test that holds turns it away, or it passes. The tests are in the order of the list, not
-- in that of the refusals' numbers.
use Rattle.std.specs.Prelude.{Bool, true, false, List, [], ◌∷◌, Result, Ok, Err}
use Rattle.refusal.specs.declared.Refusal.{Refusal}

pub data Verdict (A : Type 0) : Type 0 where
  passed : A → Verdict A
  refused : Refusal → Verdict A

-- a test on the input, and the refusal if the test holds
pub data Check : Type 0 where
  check : Bool → Refusal → Check

-- `a` passes, unless one of the checks holds: then the refusal of the first that does
unfoldable pub unless : {A : Type 0} → List Check → A → Verdict A
unless [] a = passed a
unless (check true n ∷ cs) a = refused n
unless (check false n ∷ cs) a = unless cs a

-- f continues with what passed, and a refusal stays
unfoldable pub if_passed : {A B : Type 0} → Verdict A → (A → Verdict B) → Verdict B
if_passed (passed a) f = f a
if_passed (refused n) f = refused n

-- the checks alone: the refusal of the first that holds, if any
unfoldable pub first_refusal : List Check → Result (Unit {0}) Refusal
first_refusal [] = Ok tt
first_refusal (check true n ∷ cs) = Err n
first_refusal (check false n ∷ cs) = first_refusal cs
