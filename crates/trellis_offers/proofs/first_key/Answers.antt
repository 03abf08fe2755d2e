-- `trellis_offers::first_key` meets its contract.
use Rattle.trellis_offers.specs.OffersLaws.{have_keys, least_letters}
use Rattle.trellis_offers.specs.LookupsLaws.{firsts_follow}
use Rattle.trellis_offers.proofs.first_key.Goals as goal

pub least_key-requires : goal.least_key-requires
least_key-requires c = let p = c.requires in (have_keys p.0 0 (firsts_follow p.0 p.3), p.2)

pub returns : goal.returns
returns c = let p = c.requires in least_letters p.0 p.1 0 (firsts_follow p.0 p.3) c.least_key.ensures
