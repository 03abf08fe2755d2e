-- `read_spelling::write_characters` meets its contract: the labels before x are replaced by their characters, the others are still there.
use Rattle.std.proofs.Common.{arith}
use Rattle.read_spelling.proofs.Spells.{spelt}
use Rattle.read_spelling.proofs.write_characters.Goals as goal

pub returns : goal.returns
returns c =
    let l = c.loop-x in
    spelt c.args.alphabet.now c.args.word.now l.x-items c.args.n l.x-index c.requires.room (omega arith) l.invariant
