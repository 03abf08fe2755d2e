-- `confidence::write_costs` meets its contract: what is written, and the costs of the rest, make the whole.
use Rattle.std.proofs.Common.{arith}
use Rattle.std.proofs.lemmas.List.{length-map}
use Rattle.std.specs.Prelude.{◌+◌, map, drop, get_or}
use Rattle.lists.proofs.FillingLoops.{filling_none, filling_more}
use Rattle.confidence_rule.specs.Cost.{cost_of}
use Rattle.confidence.proofs.Loops.{cost_step}
use Rattle.confidence.proofs.write_costs.Goals as goal

pub loop-i-init : goal.loop-i-init
loop-i-init c =
    let all = c.args.confidences.now in
    filling_none (map cost_of all) c.args.costs.now (let l = length-map all cost_of in omega arith)

pub loop-i-preserved : goal.loop-i-preserved
loop-i-preserved c =
    let all = c.args.confidences.now in
    let l = c.loop-i in
    rw c.cost.ensures
    (filling_more (map cost_of all) c.args.costs.now l.costs (map cost_of (drop (l.i + 1) all)) l.i (cost_of (get_or all l.i 0))
    (rw (cost_step all l.i c.loop-i-test.true) at l.invariant))
