-- `form_arcs::list_firsts` meets its contract: the list has the letters so far that may be first.
use Rattle.std.specs.Prelude.{◌≤◌}
use Rattle.std.proofs.Common.{sym, arith, ◌∙◌}
use Rattle.form_arcs.specs.FirstsLoops.{firsts_none, firsts_not, firsts_more}
use Rattle.form_arcs.proofs.list_firsts.Goals as goal
use Rattle.form_arcs.proofs.list_firsts.Goals.{then-may_be_first, else-may_be_first}

pub loop-j-init : goal.loop-j-init
loop-j-init c = firsts_none c.args.form.words.now c.args.list.now c.requires

pub loop-j-preserved : goal.loop-j-preserved
loop-j-preserved c =
    let f = c.args.form.words.now in
    let few = c.args.form.valid.head.letters_high in
    let l = c.loop-j in
    let end = c.letters-j-end.ensures in
    let small : l.j ≤ 127 = omega arith in
    elim c.if-may_be_first.branch [
      | then-may_be_first w ↦
          rw (w.list-is, w.n-is) (firsts_more f l.list l.j l.n l.invariant small (sym c.may_be_first.ensures ∙ w.if-may_be_first.true))
      | else-may_be_first w ↦
          rw (w.list-is, w.n-is) (firsts_not f l.list l.j l.n l.invariant (sym c.may_be_first.ensures ∙ w.if-may_be_first.false))
    ]
