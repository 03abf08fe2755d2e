-- `form_starts::skip_below` meets its contract: the sources passed are below i.
use Rattle.std.specs.Prelude.{ℕ, ◌≤◌, ◌<◌, get_or}
use Rattle.automaton.specs.Form.{source}
use Rattle.form_starts.proofs.skip_below.Given as goal

abbrev pub invariant-loop-m : goal.invariant-loop-m
invariant-loop-m l = (k : ℕ) → l.n ≤ k → k < l.m → source (get_or l.form.words.now k 0) < l.i
