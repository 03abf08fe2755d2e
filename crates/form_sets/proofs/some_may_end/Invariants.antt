-- `form_sets::some_may_end` meets its contract: none of the letters passed is in the set and may end a word.
use Rattle.std.specs.Prelude.{ℕ, ◌<◌, ◌≡◌, true}
use Rattle.lists.specs.Marks.{Has}
use Rattle.automaton.specs.Form.{ends_of}
use Rattle.form_sets.proofs.some_may_end.Given as goal

abbrev pub invariant-loop-i : goal.invariant-loop-i
invariant-loop-i l = (k : ℕ) → k < l.i → Has l.set k → ends_of l.form.words.now k ≡ true → ⊥
