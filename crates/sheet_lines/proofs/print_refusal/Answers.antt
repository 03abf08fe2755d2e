-- `sheet_lines::print_refusal` meets its contract: the word, the number and the newline.
use Rattle.std.proofs.Common.{[], ◌∷◌, rules}
use Rattle.lists.proofs.FillingLoops.{filling_none}
use Rattle.refusal.specs.Number.{number_of}
use Rattle.sheet_lines.specs.Lines.{refusal_line}
use Rattle.sheet_lines.proofs.PiecesLaws.{piece_room, piece_stored, all_wrote}
use Rattle.sheet_lines.proofs.print_refusal.Goals as goal

pub put_bytes-requires-2 : goal.put_bytes-requires-2
put_bytes-requires-2 c =
    let w = refusal_line (number_of c.args.r) in
    let o = c.args.out.now in
    let a = rw (c.new-lines.ensures.unchanged, c.new-lines.ensures.empty) at c.put_bytes.ensures.stored in
    let b = rw c.into.ensures at c.put_decimal.ensures.stored in
    let d = c.put_decimal.new.self in
    piece_room w o (10 ∷ []) d.memory.now [] d.len (piece_stored w o (piece_stored w o (filling_none w o c.requires) a) b)

pub returns : goal.returns
returns c =
    let w = refusal_line (number_of c.args.r) in
    let o = c.args.out.now in
    let a = rw (c.new-lines.ensures.unchanged, c.new-lines.ensures.empty) at c.put_bytes.ensures.stored in
    let b = rw c.into.ensures at c.put_decimal.ensures.stored in
    all_wrote w o (piece_stored w o (piece_stored w o (piece_stored w o (filling_none w o c.requires) a) b) c.put_bytes-2.ensures.stored) (search rules)
