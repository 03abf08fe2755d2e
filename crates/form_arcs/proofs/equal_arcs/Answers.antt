-- `form_arcs::equal_arcs` meets its contract: the iterations so far have marked their letters.
use Rattle.std.specs.Prelude.{false, replicate}
use Rattle.std.proofs.Common.{sym, subst, arith}
use Rattle.lists.specs.Marks.{Marks}
use Rattle.lists.proofs.OrderLaws.{not_both}
use Rattle.lists.proofs.MarksLaws.{iterations_more}
use Rattle.form_arcs.specs.Equal.{SharesAt}
use Rattle.form_arcs.specs.EqualLoops.{equal_marked, equal_not}
use Rattle.form_arcs.proofs.equal_arcs.Goals as goal
use Rattle.form_arcs.proofs.equal_arcs.Goals.{then-as_before, else-as_before}

pub loop-i-preserved : goal.loop-i-preserved
loop-i-preserved c =
    let arcs = c.args.arcs.now in
    let f = arcs.form.words.now in
    let few = arcs.form.valid.head.letters_high in
    let l = c.loop-i in
    let end = c.letters-i-end.ensures in
    let d = c.as_before.ensures in
    let size = l.invariant.size in
    let marks : Marks (SharesAt f arcs.starts l.i) l.same c.if-as_before.same =
    elim c.if-as_before.branch [
      | then-as_before w ↦
          subst (Marks (SharesAt f arcs.starts l.i) l.same) (sym w.same-is)
          (equal_marked f arcs.starts l.i l.same (omega arith) (omega arith, omega arith, d.holds w.if-as_before.true))
      | else-as_before w ↦
          subst (Marks (SharesAt f arcs.starts l.i) l.same) (sym w.same-is)
          (equal_not f arcs.starts l.i l.same (λ q. not_both c.as_before.result (d.found q) w.if-as_before.false))
    ] in
    iterations_more (SharesAt f arcs.starts) 2 l.i (replicate 128 false) l.same c.if-as_before.same (omega arith) l.invariant marks
