-- `form_check::are_arcs` meets its contract: the words so far and the rest of the list decide.
use Rattle.std.specs.Prelude.{◌≡◌, ◌&&◌, drop}
use Rattle.lists.specs.Each.{all}
use Rattle.automaton.specs.Form.{is_arc, ordered}
use Rattle.form_check.specs.ChecksLaws.{beyond}
use Rattle.form_check.proofs.are_arcs.Given as goal

abbrev pub invariant-loop-w : goal.invariant-loop-w
invariant-loop-w l = (l.pass && beyond l.l l.last (drop l.w-index l.words)) ≡ (all (is_arc l.l) l.words && ordered l.words)
