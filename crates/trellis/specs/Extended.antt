-- The extended states of an automaton (document 01, "Extended states and decoding"): the steps of a path through them, and where a path
-- may end.
use Rattle.std.specs.Prelude.{ℕ, ◌+◌, ◌*◌, ◌≡◌, true}
use Rattle.automaton.specs.Automaton.{Automaton}
use Rattle.trellis.specs.Graph.{Graph}

-- state 2i − 1: on letter i
abbrev pub OnLetter : (i s : ℕ) → Type 0
OnLetter i s = s + 1 ≡ 2 * i

-- state 2i: in blanks after letter i; state 0: no letter yet
abbrev pub InBlanks : (i s : ℕ) → Type 0
InBlanks i s = s ≡ 2 * i

pub data Step (A : Automaton) (s x s' : ℕ) : Type 0 where
  -- on a letter: stay on it, pass into blanks, or take an arc to a letter of another label, since no blank is between
  stay : (i : ℕ) → OnLetter i s → x ≡ A.label i → OnLetter i s' → Step A s x s'
  pass : (i : ℕ) → OnLetter i s → x ≡ 0 → InBlanks i s' → Step A s x s'
  arc : (i j : ℕ) → OnLetter i s → A.follow i j ≡ true → (A.label i ≡ A.label j → ⊥) → x ≡ A.label j → OnLetter j s' → Step A s x s'
  -- in blanks after a letter: stay in them, or take an arc of that letter; in state 0: stay in it, or go to a letter that may be first
  rest : (i : ℕ) → InBlanks i s → x ≡ 0 → InBlanks i s' → Step A s x s'
  leave : (i j : ℕ) → InBlanks i s → A.follow i j ≡ true → x ≡ A.label j → OnLetter j s' → Step A s x s'

-- a path may end on a letter that may be last, in the blanks after one, or in state 0 if the empty word is accepted
pub data MayEnd (A : Automaton) (s : ℕ) : Type 0 where
  on_last : (i : ℕ) → OnLetter i s → A.ends i ≡ true → MayEnd A s
  after_last : (i : ℕ) → InBlanks i s → A.ends i ≡ true → MayEnd A s

abbrev pub extended : Automaton → Graph ℕ
extended A = record { Step = Step A; Ends = MayEnd A }
