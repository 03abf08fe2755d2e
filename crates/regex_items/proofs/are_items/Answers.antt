-- `regex_items::are_items` meets its contract: the items from i on decide.
use native.Mathlib.Omega.{arith}
use mathlib.Core.Path.{refl, sym, ◌∙◌}
use lib.ListN.{drop}
use Rattle.regex_items.specs.ItemsLaws.{width_some}
use Rattle.regex_items.specs.LeftLoops.{inner_within, some_end, inner_more, left_spoilt, left_more}
use Rattle.regex_items.proofs.are_items.Goals as goal

pub loop-i-init : goal.loop-i-init
loop-i-init c = (record { order = omega arith; closing = c.requires }, refl)

pub returns-then-closes : goal.returns-then-closes
returns-then-closes c =
    let l = c.loop-i in
    sym (some_end l.invariant.0 (sym c.closes.ensures ∙ c.if-closes.true)) ∙ l.invariant.1

pub returns-then-not-item_fits : goal.returns-then-not-item_fits
returns-then-not-item_fits c =
    let l = c.loop-i in
    let inside = sym c.closes.ensures ∙ c.if-closes.false in
    sym (left_spoilt l.invariant.0 inside (sym c.item_fits.ensures ∙ c.if-not-item_fits.true)) ∙ l.invariant.1

pub loop-i-smaller : goal.loop-i-smaller
loop-i-smaller c =
    let w = width_some (drop c.loop-i.i c.args.text.now) in
    let e = c.item_end-i.ensures in
    omega arith

pub loop-i-preserved : goal.loop-i-preserved
loop-i-preserved c =
    let l = c.loop-i in
    let inside = sym c.closes.ensures ∙ c.if-closes.false in
    let fits = sym c.item_fits.ensures ∙ c.if-not-item_fits.false in
    rw c.item_end-i.ensures (inner_more l.invariant.0 inside fits, sym (left_more l.invariant.0 inside fits) ∙ l.invariant.1)

pub returns : goal.returns
returns c =
    let w = inner_within c.loop-i.invariant.0 in
    absurd (omega arith)
