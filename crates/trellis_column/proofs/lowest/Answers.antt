-- `trellis_column::lowest` meets its contract: the loop has the lowest of the labels so far.
use Prim.Native.Nat.{◌+◌}
use Rattle.std.proofs.Common.{MatchOption, ◌≡◌, sym, ap, ◌∙◌, subst, get_or, arith}
use Rattle.lists.specs.Least.{Among}
use Rattle.trellis.specs.Reached.{entering}
use Rattle.trellis_steps.specs.Kept.{graph}
use Rattle.trellis_column.specs.Column.{LabelAt, Lowest}
use Rattle.trellis_column.specs.Loops.{lowest_first, lowest_more, lowest_members}
use Rattle.trellis_column.proofs.lowest.Goals as goal
use Rattle.trellis_column.proofs.lowest.Goals.{in-Some, in-None}

pub loop-s-preserved : goal.loop-s-preserved
loop-s-preserved c =
    let A = graph c.args.column.now in
    let items = c.listed-s-items.result.now in
    let k = c.loop-s.s-index in
    let x = c.entering-x.result in
    let e : x ≡ entering A (get_or items k 0) = c.entering-x.ensures ∙ ap (entering A) c.from.ensures in
    elim c.match-lowest.branch [
      | in-Some w ↦
          let before = subst (λ o. MatchOption o (k ≡ 0) (Lowest (Among 0 k (LabelAt A items)))) w.in-Some.is c.loop-s.invariant in
          subst (λ o. MatchOption o (k + 1 ≡ 0) (Lowest (Among 0 (k + 1) (LabelAt A items)))) (sym w.lowest-is)
          (subst (Lowest (Among 0 (k + 1) (LabelAt A items))) (sym w.min.ensures) (lowest_more A items k x w.in-Some.y before e))
      | in-None w ↦
          let none = subst (λ o. MatchOption o (k ≡ 0) (Lowest (Among 0 k (LabelAt A items)))) w.in-None.is c.loop-s.invariant in
          subst (λ o. MatchOption o (k + 1 ≡ 0) (Lowest (Among 0 (k + 1) (LabelAt A items)))) (sym w.lowest-is)
          (lowest_first A items k x none e)
    ]

pub returns : goal.returns
returns c =
    lowest_members (graph c.args.column.now) c.listed-s-items.ensures c.loop-s.lowest c.loop-s.s-index (omega arith) c.loop-s.invariant
