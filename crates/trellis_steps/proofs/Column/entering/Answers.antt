-- `Column::entering` meets its contract: the letters of a valid form are inside it.
use native.Mathlib.Omega.{arith}
use Rattle.trellis_steps.proofs.Column.entering.Goals as goal

pub entering-requires : goal.entering-requires
entering-requires c = (c.args.self.now.arcs.now.form.valid.long, (let high = c.requires in omega arith))
