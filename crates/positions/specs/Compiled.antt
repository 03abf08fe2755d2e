-- The compiled form of a tree: that of its automaton (document 01, "Opening and the compiled form").
use Rattle.std.specs.Prelude.{ℕ, List, length}
use Rattle.automaton.specs.Form.{encode}
use Rattle.regex_tree.specs.Tree.{Tree}
use Rattle.positions.specs.Numbered.{automaton_of}

abbrev pub form_of : List ℕ → Tree → List ℕ
form_of A t = encode (length A) (automaton_of A t)
