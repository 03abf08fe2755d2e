-- What is looked up once in a form.
use Rattle.std.specs.Prelude.{ℕ, Bool, List}
use Rattle.form_starts.specs.Starts.{ArcStarts}
use Rattle.form_arcs.specs.Equal.{EqualArcs}
use Rattle.form_arcs.specs.Firsts.{Firsts}
use Rattle.form_arcs.specs.Targets.{Targets}

-- the targets of its words, where each letter's arcs start, which letters share theirs, and the n letters that may be first
pub record LookedUp (f ts s : List ℕ) (same : List Bool) (list : List ℕ) (n : ℕ) : Type 0 where
  pub targets : Targets f ts
  pub starts : ArcStarts f s
  pub equal : EqualArcs f s same
  pub firsts : Firsts f list n
