-- `trellis_offers::least_offer` meets its contract: a pair's letters, and the last letter, are letters of the list.
use Rattle.std.proofs.Common.{◌≡◌, ◌+◌, ◌*◌, ◌/◌, min, arith, subst, sym, get_or, length}
use Rattle.trellis_offers.specs.Offers.{LeastOffer}
use Rattle.trellis_offers.specs.OffersLoops.{offers_more, in_pair, in_rest}
use Rattle.trellis_offers.proofs.least_offer.Goals as goal

pub offer-requires : goal.offer-requires
offer-requires g c =
    let i = c.loop-pair.pair-index in
    subst (goal.F-pre g c.args.offer) (sym (in_pair _ _ c.as_chunks.ensures.front i 0 (omega arith) (omega arith))) (c.requires (2 * i + 0) (omega arith))

pub offer-requires-in-loop-pair : goal.offer-requires-in-loop-pair
offer-requires-in-loop-pair g c =
    let i = c.loop-pair.pair-index in
    subst (goal.F-pre g c.args.offer) (sym (in_pair _ _ c.as_chunks.ensures.front i 1 (omega arith) (omega arith))) (c.requires (2 * i + 1) (omega arith))

pub loop-pair-preserved : goal.loop-pair-preserved
loop-pair-preserved g c =
    let i = c.loop-pair.pair-index in
    let f = c.args.offer in
    let xs = c.args.letters.now in
    let first = subst (λ x. goal.F-post g f x c.offer.result) (in_pair _ _ c.as_chunks.ensures.front i 0 (omega arith) (omega arith)) c.offer.ensures in
    let second = subst (λ x. goal.F-post g f x c.offer-in-loop-pair.result) (in_pair _ _ c.as_chunks.ensures.front i 1 (omega arith) (omega arith)) c.offer-in-loop-pair.ensures in
    let one = offers_more (goal.F-post g f) xs c.loop-pair.invariant c.offer.result (subst (λ k. goal.F-post g f (get_or xs k 0) c.offer.result) (omega arith) first) in
    let two = offers_more (goal.F-post g f) xs one c.offer-in-loop-pair.result second in
    let n : 2 * i + 1 + 1 ≡ 2 * (i + 1) = omega arith in
    let v : min (min c.loop-pair.least c.offer.result) c.offer-in-loop-pair.result ≡ c.min-least.result = omega arith in
    subst (λ v. LeastOffer (goal.F-post g f) xs (2 * (i + 1)) v) v (subst (λ n. LeastOffer (goal.F-post g f) xs n (min (min c.loop-pair.least c.offer.result) c.offer-in-loop-pair.result)) n two)

pub offer-requires-in-loop-letter : goal.offer-requires-in-loop-letter
offer-requires-in-loop-letter g c =
    let k = c.loop-letter.letter-index in
    let n = length c.args.letters.now / 2 * 2 in
    subst (goal.F-pre g c.args.offer) (sym (in_rest _ _ c.as_chunks.ensures.back k)) (c.requires (n + k) (omega arith))

pub loop-letter-preserved : goal.loop-letter-preserved
loop-letter-preserved g c =
    let k = c.loop-letter.letter-index in
    let f = c.args.offer in
    let xs = c.args.letters.now in
    let n = length xs / 2 * 2 in
    let r = c.offer-in-loop-letter.result in
    let last = subst (λ x. goal.F-post g f x r) (in_rest _ _ c.as_chunks.ensures.back k) c.offer-in-loop-letter.ensures in
    let more = offers_more (goal.F-post g f) xs c.loop-letter.invariant r last in
    let e : n + k + 1 ≡ n + (k + 1) = omega arith in
    let v : min c.loop-letter.least r ≡ c.min-least-in-loop-letter.result = omega arith in
    subst (λ v. LeastOffer (goal.F-post g f) xs (n + (k + 1)) v) v (subst (λ m. LeastOffer (goal.F-post g f) xs m (min c.loop-letter.least r)) e more)
