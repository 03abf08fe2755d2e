-- `vectors_fields::field` meets its contract.
use Rattle.std.proofs.Common.{◌≡◌, sym, ap, ◌∙◌, ◌-◌, take, drop, arith}
use Rattle.text.specs.Places.{until}
use Rattle.vectors_fields.specs.CutLoops.{next_within, pieces_first}
use Rattle.vectors_fields.proofs.field.Goals as goal

pub slice_bounds-result-end : goal.slice_bounds-result-end
slice_bounds-result-end c =
    let start = c.start-a in
    let w = next_within 9 c.args.line.now start.result start.ensures.0 in
    let e = c.find-e.ensures in
    omega arith

pub returns : goal.returns
returns c =
    let s = c.args in
    let start = c.start-a in
    let rest = drop start.result s.line.now in
    let e = c.find-e.ensures in
    let k : c.find-e.result - start.result ≡ until 9 rest = omega arith in
    ap (λ n. take n rest) k ∙ sym (pieces_first 9 rest) ∙ start.ensures.1
