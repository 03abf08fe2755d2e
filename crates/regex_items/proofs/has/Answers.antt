-- `regex_items::has` meets its contract: the byte is in no item before i, and the items from i on decide.
use native.Mathlib.Omega.{arith}
use mathlib.Core.Path.{refl, sym, ◌∙◌}
use lib.ListN.{drop}
use Rattle.regex_items.specs.ItemsLaws.{width_some}
use Rattle.regex_items.specs.LeftLoops.{inner_within, among_end, inner_more, is_allowed, known_good, resolved_more, among_here, among_past}
use Rattle.regex_items.proofs.has.Goals as goal

pub loop-i-init : goal.loop-i-init
loop-i-init c = (record { order = omega arith; closing = c.requires.0 }, c.requires.1, refl)

pub returns-then-closes : goal.returns-then-closes
returns-then-closes c =
    let l = c.loop-i in
    sym (among_end l.invariant.0 (sym c.closes.ensures ∙ c.if-closes.true) c.args.b) ∙ l.invariant.2

pub returns-then-item_has : goal.returns-then-item_has
returns-then-item_has c =
    let l = c.loop-i in
    let inside = sym c.closes.ensures ∙ c.if-closes.false in
    sym (among_here l.invariant.0 inside l.invariant.1 c.args.b (sym c.item_has.ensures ∙ c.if-item_has.true)) ∙ l.invariant.2

pub loop-i-smaller : goal.loop-i-smaller
loop-i-smaller c =
    let w = width_some (drop c.loop-i.i c.args.text.now) in
    let e = c.item_end-i.ensures in
    omega arith

pub loop-i-preserved : goal.loop-i-preserved
loop-i-preserved c =
    let l = c.loop-i in
    let inside = sym c.closes.ensures ∙ c.if-closes.false in
    let past = sym c.item_has.ensures ∙ c.if-item_has.false in
    rw c.item_end-i.ensures (
      inner_more l.invariant.0 inside (is_allowed l.invariant.0 inside (known_good l.invariant.0 inside l.invariant.1)),
      resolved_more l.invariant.0 inside l.invariant.1,
      sym (among_past l.invariant.0 inside l.invariant.1 c.args.b past) ∙ l.invariant.2,
    )

pub returns : goal.returns
returns c =
    let w = inner_within c.loop-i.invariant.0 in
    absurd (omega arith)
