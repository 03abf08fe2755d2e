-- `trellis_row::fill_letters` meets its contract: the states of the letters so far are written.
use Rattle.std.proofs.Common.{◌≡◌, ◌+◌, ◌*◌, ◌-◌, arith, subst}
use Rattle.automaton.specs.Form.{letters_of}
use Rattle.trellis_offers.specs.Offers.{LeastKey}
use Rattle.trellis_row.specs.Letters.{LettersFilled}
use Rattle.trellis_row.specs.LettersLoops.{letters_more}
use Rattle.trellis_row.proofs.fill_letters.Goals as goal

pub loop-i-preserved : goal.loop-i-preserved
loop-i-preserved c =
    let a = c.args in
    let l = c.loop-i in
    let f = a.offers.now.lookups.arcs.now.form.words.now in
    let ks = a.offers.now.keys.now in
    let same : l.i ≡ l.i + 1 - 1 = omega arith in
    let made = c.fill_letter-least.ensures in (
      subst (λ i. LeastKey f ks i c.fill_letter-least.result) same made.cells.along_all,
      letters_more f ks a.blank a.work.now a.here (a.here + a.stride) (omega arith) l.work c.fill_letter-least.new.work
          (a.here + 2 * l.i + a.stride) l.i c.fill_letter-least.result (omega arith) (omega arith) (omega arith) l.invariant.1 made,
    )

pub returns : goal.returns
returns c =
    let a = c.args in
    let f = a.offers.now.lookups.arcs.now.form.words.now in
    let end : c.loop-i.i ≡ letters_of f + 1 = omega arith in
    subst (LettersFilled f a.offers.now.keys.now a.blank a.work.now c.loop-i.work a.here (a.here + a.stride)) end c.loop-i.invariant.1
