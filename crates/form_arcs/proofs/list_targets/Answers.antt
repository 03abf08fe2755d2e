-- `form_arcs::list_targets` meets its contract: the targets of the words so far are written.
use Rattle.std.proofs.Common.{arith}
use Rattle.form_arcs.specs.TargetsLaws.{valid_short}
use Rattle.form_arcs.specs.TargetsLoops.{targets_listed}
use Rattle.form_arcs.proofs.list_targets.Goals as goal

pub bounds-targets-k : goal.bounds-targets-k
bounds-targets-k c =
    let form = c.args.form in
    let short = valid_short form.words.now form.valid in
    let end = c.len-k-end.ensures in
    omega arith

pub loop-k-preserved : goal.loop-k-preserved
loop-k-preserved c =
    let a = c.args in
    let l = c.loop-k in
    let short = valid_short a.form.words.now a.form.valid in
    let size = l.invariant.outside.size in
    let end = c.len-k-end.ensures in
    targets_listed a.form.words.now a.targets.now l.targets l.k c.target.result (omega arith) l.invariant c.target.ensures
