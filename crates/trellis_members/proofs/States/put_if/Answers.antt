-- `States::put_if` meets its contract: the list has room after its last member, and the state is put as the law says.
use mathlib.Core.Path.{refl, sym, subst}
use Prim.Native.Nat.{◌+◌}
use lib.ListN.{get_or, set as put}
use mathlib.Core.Bool.{false, ◌&&◌, ◌||◌, not}
use Rattle.trellis_members.specs.Members.{Members}
use Rattle.trellis_members.specs.MembersLaws.{one_if, members_put}
use Rattle.trellis_members.proofs.States.put_if.Goals as goal

pub invariant_of-self : goal.invariant_of-self
invariant_of-self c =
    let s = c.self.inside in
    let u = c.args.u in
    let fits = c.args.fits in
    let there = get_or s.set u false in
    subst (λ m. Members (put s.set u (there || fits)) (put s.list s.count u) (s.count + m)) (sym (one_if (fits && not there)))
    (members_put s.set u c.self.invariant c.requires fits there refl)
