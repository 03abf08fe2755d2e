-- `States::clear` meets its contract: the iterations so far have taken out the members before the index.
use Prim.Native.Nat.{◌+◌}
use mathlib.Core.Path.{refl, sym, subst, ap}
use native.Mathlib.Omega.{arith}
use lib.ListN.{set as put, get_or, length, take}
use mathlib.Core.Bool.{false}
use Rattle.trellis_members.specs.MembersLaws.{has_inside, members_list, members_none_left}
use Rattle.trellis_members.specs.Loops.{TakenOut, taken_none, taken_more, taken_members}
use Rattle.trellis_members.proofs.States.clear.Goals as goal

pub loop-u-init : goal.loop-u-init
loop-u-init c =
    let s = c.self.inside in
    let items = take s.count s.list in
    subst (λ before. TakenOut items 0 before s.set) c.self.view_is (taken_none items s.set)

pub loop-u-preserved : goal.loop-u-preserved
loop-u-preserved c =
    let s = c.self.inside in
    let k = c.loop-u.u-index in
    let items = take s.count s.list in
    let lists = members_list c.self.invariant in
    let inside = has_inside s.set (get_or items k 0) (lists.has k c.loop-u-test.true) in
    let long = ap length c.self.view_is in
    subst (λ u. TakenOut items (k + 1) c.args.self.now (put c.loop-u.self-inside.1.0 u false)) (sym c.from.ensures)
    (taken_more c.loop-u.invariant (omega arith))

pub invariant_of-self : goal.invariant_of-self
invariant_of-self c =
    let s = c.self.inside in
    let after = c.loop-u.self-inside.1.0 in
    taken_members c.self.invariant
    (subst (λ before. TakenOut (take s.count s.list) c.loop-u.u-index before after) (sym c.self.view_is) c.loop-u.invariant) c.loop-u-test.false

pub returns : goal.returns
returns c = members_none_left (invariant_of-self c) refl
