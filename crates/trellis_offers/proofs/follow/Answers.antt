-- `trellis_offers::follow` meets its contract.
use Rattle.std.proofs.Common.{arith}
use Rattle.trellis_offers.specs.OffersLaws.{arcs_inside, arcs_follow}
use Rattle.trellis_offers.proofs.follow.Goals as goal

pub slice_bounds-result-count : goal.slice_bounds-result-count
slice_bounds-result-count c = let p = c.requires in (arcs_inside p.0 p.1 p.2 c.args.i p.3 p.4).0

pub slice_bounds-result-start : goal.slice_bounds-result-start
slice_bounds-result-start c = let p = c.requires in let h = arcs_inside p.0 p.1 p.2 c.args.i p.3 p.4 in omega arith

pub returns : goal.returns
returns c = let p = c.requires in arcs_follow p.0 p.1 p.2 c.args.i p.3 p.4
