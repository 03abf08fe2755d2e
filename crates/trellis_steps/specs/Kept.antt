-- The kept states by what a column lends.
use Rattle.std.specs.Prelude.{ℕ, List}
use Rattle.automaton.specs.Automaton.{Automaton}
use Rattle.automaton.specs.Form.{view}
use Rattle.trellis_steps.specs.Steps.{KeptIn, KeptAt}
use Rattle.trellis_steps.specs.declared.Column.{Column}

-- the words of its form, and the automaton that they encode
abbrev pub words : Column → List ℕ
words c = c.arcs.now.form.words.now

abbrev pub graph : Column → Automaton
graph c = view (words c)

-- u is one of the states that P names, and it lies on a cheapest path
abbrev pub Kept : Column → (ℕ → Type 0) → ℕ → Type 0
Kept c P u = KeptIn (graph c) c.costs.now c.row.now c.left P u

-- k is state u, which lies on a cheapest path if its label is x
abbrev pub KeptIf : Column → (x u k : ℕ) → Type 0
KeptIf c x u k = KeptAt c.costs.now c.row.now c.left x u k
