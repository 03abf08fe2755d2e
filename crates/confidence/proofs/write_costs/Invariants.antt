-- `confidence::write_costs` meets its contract: what is written, and the costs of the rest, make the whole.
use Rattle.std.specs.Prelude.{map, drop}
use Rattle.lists.proofs.FillingLoops.{Filling}
use Rattle.confidence_rule.specs.Cost.{cost_of}
use Rattle.confidence.proofs.write_costs.Given as goal

abbrev pub invariant-loop-i : goal.invariant-loop-i
invariant-loop-i l = Filling (map cost_of l.confidences) l.initial.costs l.costs (map cost_of (drop l.i l.confidences)) l.i
