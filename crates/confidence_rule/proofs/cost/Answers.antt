-- `confidence_rule::cost` meets its contract.
use Rattle.std.proofs.Common.{◌≤◌, ◌^◌, sym, ap, ◌∙◌, arith}
use Rattle.std.proofs.Math.Nat.{pow-le-pow_left}
use Rattle.confidence_rule.specs.Cost.{cost_of}
use Rattle.confidence_rule.proofs.Loops.{cost_more}
use Rattle.confidence_rule.proofs.cost.Goals as goal

pub returns-then-c-eq0 : goal.returns-then-c-eq0
unfolding cost_of
returns-then-c-eq0 c = ap cost_of (sym c.if-c-eq0.true)

pub pow-requires : goal.pow-requires
pow-requires c =
    let low : c.from.result ≤ 255 = omega arith in
    let h : c.from.result ^ 8 ≤ 255 ^ 8 = pow-le-pow_left low 8 in
    omega arith

pub returns : goal.returns
returns c =
    c.largest_shift.ensures ∙ sym (cost_more c.args.c c.pow.result c.if-c-eq0.false (c.pow.ensures ∙ ap (λ n. n ^ 8) c.from.ensures))
