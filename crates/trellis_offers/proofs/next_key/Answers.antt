-- `trellis_offers::next_key` meets its contract.
use Rattle.std.proofs.Common.{◌-◌}
use Rattle.trellis_offers.specs.OffersLaws.{have_keys, least_letters, least_equal}
use Rattle.trellis_offers.specs.LookupsLaws.{equal_follow}
use Rattle.trellis_offers.proofs.next_key.Goals as goal

pub returns-then-same-i : goal.returns-then-same-i
returns-then-same-i c =
    let a = c.args in
    let p = c.requires in
    least_equal a.form.now a.keys.now (a.i - 1) a.i a.before ((equal_follow p.0.valid p.0.starts p.1).is a.i c.if-same-i.true) p.2

pub least_key-requires : goal.least_key-requires
least_key-requires c = let p = c.requires.0 in (have_keys p.valid c.args.i c.follow.ensures, p.size)

pub returns : goal.returns
returns c = let p = c.requires.0 in least_letters p.valid p.keys c.args.i c.follow.ensures c.least_key.ensures
