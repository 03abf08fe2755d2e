-- `ctc_spread::spread` meets its contract: the first check that holds, or the spread written.
use Prim.Native.Nat.{◌<◌, ◌≤◌}
use mathlib.Core.Path.{sym, ◌∙◌}
use mathlib.Core.List.{[], ◌∷◌}
use native.Mathlib.Omega.{arith}
use lib.ListN.{length}
use lib.Dec.{ltb}
use borrow.Author.Tests.{lt-ltb, le-ltb}
use Rattle.refusal.specs.declared.Refusal.TheVariants.{OutputMemory, Label}
use Rattle.refusal.specs.Verdict.{check}
use Rattle.refusal.proofs.VerdictLaws.{unless_holds, unless_second, unless_neither}
use Rattle.refusal.proofs.ReportLaws.{fills_refused, fills_wrote}
use Rattle.ctc.specs.Spread.{spread}
use Rattle.ctc.proofs.SpreadLaws.{spread_length}
use Rattle.ctc_labels.specs.Calls.{label_fault}
use Rattle.ctc_labels.proofs.CallsLaws.{faultless_labels}
use Rattle.ctc_spread.specs.Calls.{spread_call}
use Rattle.ctc_spread.proofs.Loops.{few_pairs_in}
use Rattle.ctc_spread.proofs.spread.Goals as goal

pub overflow_add-word : goal.overflow_add-word
overflow_add-word c = let w = c.args.word.now in let e = c.count_pairs.ensures in let h = few_pairs_in w in omega arith

pub returns-then-path-word : goal.returns-then-path-word
unfolding spread_call
returns-then-path-word c =
    let a = c.args in
    let w = a.word.now in
    let p = a.path.now in
    let n = spread_length w in
    let e = c.count_pairs.ensures in
    let h : length p < length (spread w) = omega arith in
    fills_refused (spread_call a.k w (length p)) OutputMemory p
    (unless_holds (spread w) (ltb (length p) (length (spread w))) OutputMemory (check (label_fault a.k 1 w) Label ∷ []) (lt-ltb (length p) (length (spread w)) h))

pub returns-then-has_fault : goal.returns-then-has_fault
unfolding spread_call
returns-then-has_fault c =
    let a = c.args in
    let w = a.word.now in
    let p = a.path.now in
    let n = spread_length w in
    let e = c.count_pairs.ensures in
    let h : length (spread w) ≤ length p = omega arith in
    fills_refused (spread_call a.k w (length p)) Label p
    (unless_second (spread w) (ltb (length p) (length (spread w))) (label_fault a.k 1 w) OutputMemory Label (le-ltb (length p) (length (spread w)) h)
    (sym c.has_fault.ensures ∙ c.if-has_fault.true))

pub write_spread-requires : goal.write_spread-requires
write_spread-requires c =
    let a = c.args in
    let w = a.word.now in
    let n = spread_length w in
    let e = c.count_pairs.ensures in
    (omega arith, faultless_labels a.k 1 w (sym c.has_fault.ensures ∙ c.if-has_fault.false))

pub returns : goal.returns
unfolding spread_call
returns c =
    let a = c.args in
    let w = a.word.now in
    let p = a.path.now in
    let n = spread_length w in
    let e = c.count_pairs.ensures in
    let h : length (spread w) ≤ length p = omega arith in
    let wrote = c.write_spread in
    fills_wrote (spread_call a.k w (length p)) (spread w) p wrote.new.path wrote.result
    (unless_neither (spread w) (ltb (length p) (length (spread w))) (label_fault a.k 1 w) OutputMemory Label (le-ltb (length p) (length (spread w)) h)
    (sym c.has_fault.ensures ∙ c.if-has_fault.false)) wrote.ensures
