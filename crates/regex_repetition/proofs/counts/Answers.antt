-- `regex_repetition::counts` meets its contract.
use Rattle.std.proofs.Common.{◌≡◌, ◌+◌, ◌-◌, ◌∙◌, List, ℕ, true, false, length, take, drop, eqb, sym, eqb-true, eq-eqb}
use Rattle.std.proofs.lemmas.Result.{err_from_is_err_and}
use Rattle.text.proofs.TextLaws.{part_rest}
use Rattle.regex_repetition.specs.CountLaws.{counts_two, counts_onward, counts_no_most}
use Rattle.regex_repetition.proofs.counts.Goals as goal

-- the rest of the text, passed as a slice, is empty
rest_empty : (s : List ℕ) (k : ℕ) → true ≡ eqb (length (take (length s - k) (drop k s))) 0 → length (drop k s) ≡ 0
rest_empty s k h = rw (part_rest s k) at (eqb-true _ _ (sym h))

rest_some : (s : List ℕ) (k : ℕ) → false ≡ eqb (length (take (length s - k) (drop k s))) 0 → length (drop k s) ≡ 0 → ⊥
rest_some s k h z = let e : false ≡ true = (rw (part_rest s k) at h) ∙ eq-eqb _ _ z in absurd (cc)

pub returns-then-is_empty : goal.returns-then-is_empty
returns-then-is_empty c =
    let s = c.args.inside.now in
    let k = c.find-comma.result in
    counts_onward s c.args.end k c.find-comma.ensures c.if-inside-comma.false c.in_ok-least.least c.in_ok-least.ensures
    (rest_empty s (k + 1) c.if-is_empty.ensures)

pub returns-in_err-most : goal.returns-in_err-most
returns-in_err-most c =
    let s = c.args.inside.now in
    let k = c.find-comma.result in
    let p = err_from_is_err_and c.from_residual-in_err-most.result c.from_residual-in_err-most.ensures.1 in
    rw (p.1, p.2)
    (counts_no_most s c.args.end k c.find-comma.ensures c.if-inside-comma.false c.in_ok-least.least c.in_ok-least.ensures
    (rest_some s (k + 1) c.if-is_empty.ensures) _ (rw (part_rest s (k + 1)) at c.in_err-most.ensures))

pub returns : goal.returns
returns c =
    let s = c.args.inside.now in
    let k = c.find-comma.result in
    c.range-2.ensures
    ∙ counts_two s c.args.end k c.find-comma.ensures c.if-inside-comma.false c.in_ok-least.least c.in_ok-least.ensures
    (rest_some s (k + 1) c.if-is_empty.ensures) c.in_ok-most.most (rw (part_rest s (k + 1)) at c.in_ok-most.ensures)
