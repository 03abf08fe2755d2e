-- An answer handed back as a number and a list of counts.
use Rattle.std.specs.Prelude.{ℕ, ◌≡◌, cond, List, [], ◌∷◌, Result, Ok, Err}
use Rattle.refusal.specs.declared.Refusal.{Refusal}
use Rattle.refusal.specs.Number.{number_of}
use Rattle.refusal.specs.Report.{Report}
use Rattle.answers.specs.Judgement.{Judgement}

module _ {C : Type 0} where
  -- 0, or the number of the refusal
  abbrev pub number_or_zero : Result C Refusal → ℕ
  number_or_zero (Ok _) = 0
  number_or_zero (Err n) = number_of n

  -- the counts of an answer, or `none` at a refusal
  abbrev pub counts_or : C → Result C Refusal → C
  counts_or none (Ok c) = c
  counts_or none (Err _) = none

-- Which counts of a report are handed back, in their order.

abbrev pub length_alone : Report → List ℕ
length_alone a = a.filled ∷ []

abbrev pub price_and_length : Report → List ℕ
price_and_length a = a.price ∷ (a.filled ∷ [])

abbrev pub price_and_lengths : Report → List ℕ
price_and_lengths a = a.price ∷ (a.filled ∷ (a.form ∷ []))

-- A report handed back: its number, 0 where nothing is refused, and those counts.
pub record Hands (counts : Report → List ℕ) (answer : Report) (handed : List ℕ) (result : ℕ) : Type 0 where
  pub number : result ≡ answer.number
  pub list : handed ≡ counts answer

-- A judgement handed back: its number, and 1 for an accepted word, else 0.
pub record HandsJudgement (answer : Judgement) (handed : List ℕ) (result : ℕ) : Type 0 where
  pub number : result ≡ answer.number
  pub accepted : handed ≡ cond answer.accepted 1 0 ∷ []
