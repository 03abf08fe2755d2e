-- `text_lines::line_end` meets its contract: the first newline is the line's end.
use Rattle.text_lines.proofs.PlacesLaws.{line_found}
use Rattle.text_lines.proofs.line_end.Goals as goal

pub returns : goal.returns
returns c = line_found c.args.text.now c.args.at c.find.result c.requires c.find.ensures
