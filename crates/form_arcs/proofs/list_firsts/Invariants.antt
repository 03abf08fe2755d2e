-- `form_arcs::list_firsts` meets its contract: the list has the letters so far that may be first.
use Rattle.form_arcs.specs.Firsts.{FirstsBelow}
use Rattle.form_arcs.proofs.list_firsts.Given as goal

abbrev pub invariant-loop-j : goal.invariant-loop-j
invariant-loop-j l = FirstsBelow l.form.words.now l.j l.list l.n
