-- `trellis_table::fill_last` meets its contract.
use Rattle.std.proofs.Common.{◌≡◌, ◌+◌, ◌*◌, arith, subst}
use Rattle.automaton.specs.Form.{letters_of}
use Rattle.trellis_table.specs.LastLoops.{LastBelow, last_filled}
use Rattle.trellis_table.proofs.fill_last.Goals as goal

pub returns : goal.returns
returns c =
    let f = c.args.form.words.now in
    let e : c.loop-s.s ≡ 2 * letters_of f + 1 = omega arith in
    last_filled f c.args.work.now c.args.base c.loop-s.work (subst (LastBelow f c.args.work.now c.loop-s.work c.args.base) e c.loop-s.invariant)
