-- `judge::accepts` meets its contract: what is left of the word, from the present set, decides.
use Rattle.std.specs.Prelude.{◌↔◌, drop}
use Rattle.automaton.specs.Automaton.{Accepts}
use Rattle.automaton.specs.Form.{view}
use Rattle.form_sets.specs.Loops.{SpellsFrom}
use Rattle.judge.proofs.accepts.Given as goal

abbrev pub invariant-loop-x : goal.invariant-loop-x
invariant-loop-x l = let f = l.form.words.now in Accepts (view f) l.word ↔ SpellsFrom (view f) l.set (drop l.x-index l.word)
