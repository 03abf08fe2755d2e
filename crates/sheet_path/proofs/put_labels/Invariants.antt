-- `sheet_path::put_labels` meets its contract: the memory before the loop, what is written and the labels still to come are the whole.
use mathlib.Core.Path.{◌≡◌}
use mathlib.Core.List.{◌++◌}
use lib.ListN.{take, drop}
use Rattle.lists.proofs.FillingLoops.{Filling}
use Rattle.sheet_path.specs.Labels.{following}
use Rattle.sheet_path.proofs.put_labels.Given as goal

abbrev pub invariant-loop-x : goal.invariant-loop-x
invariant-loop-x l = record {
  same_memory : l.out.memory.ghost_name ≡ l.initial.out.memory.ghost_name;
  filling :
      Filling (take l.initial.out.len l.initial.out.memory.now ++ following l.others) l.initial.out.memory.now l.out.memory.now
      (following (drop l.x-index l.others)) l.out.len;
}
