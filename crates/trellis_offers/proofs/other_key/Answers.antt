-- `trellis_offers::other_key` meets its contract: the letter's own key has its label.
use Rattle.std.proofs.Common.{◌≡◌, sym, subst, ◌∙◌, arith}
use Rattle.automaton.specs.Form.{label_of}
use Rattle.trellis_offers.specs.Offers.{LeastOther}
use Rattle.trellis_offers.specs.OffersLaws.{have_keys, least_follows, least_another}
use Rattle.trellis_offers.proofs.other_key.Goals as goal

pub least_offer-requires : goal.least_offer-requires
least_offer-requires c =
    let p = c.requires.0 in λ k h. let low = have_keys p.valid c.args.i c.follow.ensures k h in let size = p.size in omega arith

pub returns-then-label_of-own : goal.returns-then-label_of-own
returns-then-label_of-own c =
    let a = c.args in
    let p = c.requires.0 in
    let own : c.label_of-own.result ≡ label_of a.form.now a.i = c.label_of-own.ensures ∙ p.keys.label a.i p.low p.high in
    subst (λ x. LeastOther a.form.now a.keys.now a.i x c.least_offer.result) own
    (least_follows p.valid p.keys a.i c.follow.ensures c.label_of-own.result _ (λ j m low high p. p) c.least_offer.ensures)

pub returns : goal.returns
returns c =
    let a = c.args in
    let p = c.requires.0 in
    let own : c.label_of-own.result ≡ label_of a.form.now a.i = c.label_of-own.ensures ∙ p.keys.label a.i p.low p.high in
    least_another p.valid p.keys a.i (label_of a.form.now a.i) a.least c.requires.1 (λ z. c.if-label_of-own.false (c.label_of.ensures ∙ z ∙ sym own))
