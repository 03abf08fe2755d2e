-- `trellis_row::fill_letters` meets its contract: the states of the letters so far are written.
use Rattle.std.proofs.Common.{◌+◌, ◌-◌}
use Rattle.trellis_offers.specs.Offers.{LeastKey}
use Rattle.trellis_row.specs.Letters.{LettersFilled}
use Rattle.trellis_row.proofs.fill_letters.Given as goal

abbrev pub invariant-loop-i : goal.invariant-loop-i
invariant-loop-i l =
    LeastKey l.offers.lookups.arcs.now.form.words.now l.offers.keys.now (l.i - 1) l.least
    × LettersFilled l.offers.lookups.arcs.now.form.words.now l.offers.keys.now l.blank l.initial.work l.work l.here (l.here + l.stride) l.i
