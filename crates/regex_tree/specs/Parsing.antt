-- Parsing from the front of a text: the answer's type, and how answers are put together.
use Rattle.std.proofs.Math.Option.{Option, some, none}
use Rattle.std.specs.Prelude.{List, ℕ}
use Rattle.refusal.specs.declared.Refusal.{Refusal}

-- What was found and the rest of the text after it, or the refusal and the text from the fault on.
pub data Parsing (X : Type 0) : Type 0 where
  found : X → List ℕ → Parsing X
  fault : Refusal → List ℕ → Parsing X

-- parsing goes on after what was found
unfoldable pub then : {X Y : Type 0} → Parsing X → (X → List ℕ → Parsing Y) → Parsing Y
then (found a s) f = f a s
then (fault n s) f = fault n s

-- What the inside of brackets or braces gives, and the text after their end. Where they have no end, or the inside gives nothing, the text
-- w, which begins with the opening sign, is refused.
unfoldable pub enclosed : {I X : Type 0} → Refusal → List ℕ → (I → Option X) → Option (I × List ℕ) → Parsing X
enclosed n w f none = fault n w
enclosed n w f (some x) = elim (f x.0) [ none ↦ fault n w | some a ↦ found a x.1 ]
