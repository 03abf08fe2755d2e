-- `trellis_offers::least_offer` meets its contract: the least that the letters so far offer.
use Rattle.std.proofs.Common.{◌+◌, ◌*◌, ◌/◌, length}
use Rattle.trellis_offers.specs.Offers.{LeastOffer}
use Rattle.trellis_offers.proofs.least_offer.Given as goal

abbrev pub invariant-loop-pair : goal.invariant-loop-pair
invariant-loop-pair g l = LeastOffer (goal.F-post g l.offer) l.letters (2 * l.pair-index) l.least

abbrev pub invariant-loop-letter : goal.invariant-loop-letter
invariant-loop-letter g l = LeastOffer (goal.F-post g l.offer) l.letters (length l.letters / 2 * 2 + l.letter-index) l.least
