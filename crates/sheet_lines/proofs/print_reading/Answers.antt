-- `sheet_lines::print_reading` meets its contract: the price, the word and the path, each before a newline.
use Rattle.std.proofs.Common.{[], ◌∷◌, ◌++◌, rules}
use Rattle.sheet_path.specs.Labels.{spaced}
use Rattle.sheet_lines.specs.Lines.{reading_lines}
use Rattle.sheet_lines.proofs.PiecesLaws.{reading_none, piece_room, piece_stored, all_wrote}
use Rattle.sheet_lines.proofs.print_reading.Goals as goal

pub put_bytes-requires : goal.put_bytes-requires
put_bytes-requires c =
    let s = c.args in
    let o = s.out.now in
    let w = reading_lines s.price s.word.now s.path.now in
    let a = rw (c.new-lines.ensures.unchanged, c.new-lines.ensures.empty) at c.put_decimal.ensures.stored in
    let f = piece_stored w o (reading_none s.price s.word.now s.path.now o c.requires) a in
    piece_room w o (10 ∷ []) c.put_decimal.new.self.memory.now (s.word.now ++ (10 ∷ (spaced s.path.now ++ (10 ∷ [])))) c.put_decimal.new.self.len f

pub put_bytes-requires-2 : goal.put_bytes-requires-2
put_bytes-requires-2 c =
    let s = c.args in
    let o = s.out.now in
    let w = reading_lines s.price s.word.now s.path.now in
    let a = rw (c.new-lines.ensures.unchanged, c.new-lines.ensures.empty) at c.put_decimal.ensures.stored in
    let f = piece_stored w o (reading_none s.price s.word.now s.path.now o c.requires) a in
    let f = piece_stored w o f c.put_bytes.ensures.stored in
    piece_room w o s.word.now c.put_bytes.new.self.memory.now (10 ∷ (spaced s.path.now ++ (10 ∷ []))) c.put_bytes.new.self.len f

pub put_bytes-requires-3 : goal.put_bytes-requires-3
put_bytes-requires-3 c =
    let s = c.args in
    let o = s.out.now in
    let w = reading_lines s.price s.word.now s.path.now in
    let a = rw (c.new-lines.ensures.unchanged, c.new-lines.ensures.empty) at c.put_decimal.ensures.stored in
    let f = piece_stored w o (reading_none s.price s.word.now s.path.now o c.requires) a in
    let f = piece_stored w o f c.put_bytes.ensures.stored in
    let f = piece_stored w o f c.put_bytes-2.ensures.stored in
    piece_room w o (10 ∷ []) c.put_bytes-2.new.self.memory.now (spaced s.path.now ++ (10 ∷ [])) c.put_bytes-2.new.self.len f

pub put_labels-requires : goal.put_labels-requires
put_labels-requires c =
    let s = c.args in
    let o = s.out.now in
    let w = reading_lines s.price s.word.now s.path.now in
    let a = rw (c.new-lines.ensures.unchanged, c.new-lines.ensures.empty) at c.put_decimal.ensures.stored in
    let f = piece_stored w o (reading_none s.price s.word.now s.path.now o c.requires) a in
    let f = piece_stored w o f c.put_bytes.ensures.stored in
    let f = piece_stored w o f c.put_bytes-2.ensures.stored in
    let f = piece_stored w o f c.put_bytes-3.ensures.stored in
    piece_room w o (spaced s.path.now) c.put_bytes-3.new.self.memory.now (10 ∷ []) c.put_bytes-3.new.self.len f

pub put_bytes-requires-4 : goal.put_bytes-requires-4
put_bytes-requires-4 c =
    let s = c.args in
    let o = s.out.now in
    let w = reading_lines s.price s.word.now s.path.now in
    let a = rw (c.new-lines.ensures.unchanged, c.new-lines.ensures.empty) at c.put_decimal.ensures.stored in
    let f = piece_stored w o (reading_none s.price s.word.now s.path.now o c.requires) a in
    let f = piece_stored w o f c.put_bytes.ensures.stored in
    let f = piece_stored w o f c.put_bytes-2.ensures.stored in
    let f = piece_stored w o f c.put_bytes-3.ensures.stored in
    let f = piece_stored w o f c.put_labels.ensures.stored in
    piece_room w o (10 ∷ []) c.put_labels.new.out.memory.now ([]) c.put_labels.new.out.len f

pub returns : goal.returns
returns c =
    let s = c.args in
    let o = s.out.now in
    let w = reading_lines s.price s.word.now s.path.now in
    let a = rw (c.new-lines.ensures.unchanged, c.new-lines.ensures.empty) at c.put_decimal.ensures.stored in
    let f = piece_stored w o (reading_none s.price s.word.now s.path.now o c.requires) a in
    let f = piece_stored w o f c.put_bytes.ensures.stored in
    let f = piece_stored w o f c.put_bytes-2.ensures.stored in
    let f = piece_stored w o f c.put_bytes-3.ensures.stored in
    let f = piece_stored w o f c.put_labels.ensures.stored in
    let f = piece_stored w o f c.put_bytes-4.ensures.stored in
    all_wrote w o f (search rules)
