-- `trellis_steps::entering` meets its contract: an even state is in blanks, and an odd one is on a letter.
use Prim.Native.Nat.{◌+◌, ◌/◌}
use mathlib.Core.Path.{sym, ◌∙◌}
use native.Mathlib.Omega.{arith}
use Rattle.automaton.specs.Form.{view}
use Rattle.trellis.proofs.ReachedLaws.{entering_blanks, entering_letter}
use Rattle.trellis_steps.proofs.entering.Goals as goal

pub returns-then-u-eq0 : goal.returns-then-u-eq0
returns-then-u-eq0 c = let a = c.args in sym (entering_blanks (view a.form.now) ((a.u + 1) / 2) a.u (omega arith))

pub returns : goal.returns
returns c =
    let a = c.args in
    c.label.ensures ∙ sym (entering_letter (view a.form.now) ((a.u + 1) / 2) a.u (omega arith))
