-- `regex_items::are_known` meets its contract: the items from i on decide.
use native.Mathlib.Omega.{arith}
use mathlib.Core.Path.{refl, sym, ◌∙◌}
use lib.ListN.{drop}
use Rattle.regex_items.specs.ItemsLaws.{width_some}
use Rattle.regex_items.specs.LeftLoops.{inner_within, known_end, inner_more, is_allowed, some_more, unknown_here, known_more}
use Rattle.regex_items.proofs.are_known.Goals as goal

pub loop-i-init : goal.loop-i-init
loop-i-init c = (record { order = omega arith; closing = c.requires.0 }, c.requires.1, refl)

pub returns-then-closes : goal.returns-then-closes
returns-then-closes c =
    let l = c.loop-i in
    sym (known_end l.invariant.0 (sym c.closes.ensures ∙ c.if-closes.true)) ∙ l.invariant.2

pub returns-then-not-item_known : goal.returns-then-not-item_known
returns-then-not-item_known c =
    let l = c.loop-i in
    let inside = sym c.closes.ensures ∙ c.if-closes.false in
    sym (unknown_here l.invariant.0 inside l.invariant.1 (sym c.item_known.ensures ∙ c.if-not-item_known.true)) ∙ l.invariant.2

pub loop-i-smaller : goal.loop-i-smaller
loop-i-smaller c =
    let w = width_some (drop c.loop-i.i c.args.text.now) in
    let e = c.item_end-i.ensures in
    omega arith

pub loop-i-preserved : goal.loop-i-preserved
loop-i-preserved c =
    let l = c.loop-i in
    let inside = sym c.closes.ensures ∙ c.if-closes.false in
    let known = sym c.item_known.ensures ∙ c.if-not-item_known.false in
    rw c.item_end-i.ensures (
      inner_more l.invariant.0 inside (is_allowed l.invariant.0 inside l.invariant.1),
      some_more l.invariant.0 inside l.invariant.1,
      sym (known_more l.invariant.0 inside l.invariant.1 known) ∙ l.invariant.2,
    )

pub returns : goal.returns
returns c =
    let w = inner_within c.loop-i.invariant.0 in
    absurd (omega arith)
