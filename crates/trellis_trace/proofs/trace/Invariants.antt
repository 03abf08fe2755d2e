-- `trellis_trace::trace` meets its contract: the labels so far lead to the states of the set.
use Rattle.matrix.specs.View.{value}
use Rattle.trellis_members.specs.Members.{IsEmpty}
use Rattle.trellis_trace.specs.Loops.{Tracked}
use Rattle.trellis_trace.proofs.trace.Given as goal

abbrev pub invariant-loop-t : goal.invariant-loop-t
invariant-loop-t l = Tracked l.arcs.form.words.now (value l.matrix) l.initial.path l.t l.set l.left l.path × IsEmpty l.near
