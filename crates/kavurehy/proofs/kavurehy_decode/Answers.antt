-- `kavurehy::kavurehy_decode` meets its contract.
use Rattle.answers.specs.Decoded.{reported}
use Rattle.matrix.specs.Matrix.{matrix}
use Rattle.decode_valid.specs.Lent.{Lent}
use Rattle.kavurehy.specs.BoundsLaws.{decode_fits}
use Rattle.kavurehy.proofs.kavurehy_decode.Goals as goal

pub hand_decoded-requires : goal.hand_decoded-requires
hand_decoded-requires c =
    let a = c.args in
    let d = c.decode in
    let before : Lent = record { path = a.path.now; word = a.word.now; work = a.work.now } in
    decode_fits a.form.now (matrix a.costs.now a.width a.columns) before _ (reported d.result) d.ensures
