-- `read_valid::read_valid` meets its contract: Decode's answer, with its word as characters.
use Rattle.std.specs.Prelude.{◌+◌}
use Rattle.std.proofs.Common.{ap, ◌∙◌}
use Rattle.matrix.specs.View.{value}
use Rattle.decode_valid.specs.Lent.{lent}
use Rattle.read_valid.specs.WordsLaws.{read_labels, read_characters}
use Rattle.read_valid.proofs.read_valid.Goals as goal

pub write_characters-requires : goal.write_characters-requires
write_characters-requires c =
    let a = c.args in
    let left = c.decode_valid.new in
    read_labels a.form.words.now (value a.matrix) (lent a.path.now a.word.now a.work.now) (lent left.path left.word left.work) a.alphabet.now
    _ _ c.in_ok-decoded.ensures (c.requires.0.wide ∙ ap (λ k. k + 1) c.requires.1) c.requires.0.word

pub returns : goal.returns
returns c =
    let a = c.args in
    let left = c.decode_valid.new in
    rw c.len.ensures
    (read_characters a.form.words.now (value a.matrix) (lent a.path.now a.word.now a.work.now) (lent left.path left.word left.work)
    a.alphabet.now _ _ c.in_ok-decoded.ensures _ c.write_characters.ensures)
