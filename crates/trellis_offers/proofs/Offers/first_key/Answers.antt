-- `trellis_offers::Offers::first_key` meets its contract.
use Rattle.std.proofs.Common.{arith}
use Rattle.trellis_offers.specs.OffersLaws.{have_keys, least_letters}
use Rattle.trellis_offers.proofs.Offers.first_key.Goals as goal

pub least_key-requires : goal.least_key-requires
least_key-requires c = let l = c.args.self.now.lookups in (have_keys l.arcs.now.form.valid 0 l.first, omega arith)

pub returns : goal.returns
returns c = let o = c.args.self.now in least_letters o.lookups.arcs.now.form.valid o.labelled 0 o.lookups.first c.least_key.ensures
