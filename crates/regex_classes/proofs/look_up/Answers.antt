-- `regex_classes::look_up` meets its contract: the table in the code is tested here as a whole, row by row against the definition.
use Rattle.std.proofs.Common.{refl}
use Rattle.lists.specs.Lists.{numbers}
use Rattle.regex_tree.specs.Classes.{classes}
use Rattle.regex_classes.specs.Table.{is_row, agrees}
use Rattle.regex_classes.specs.TableLaws.{class_found}
use Rattle.regex_classes.proofs.look_up.Goals as goal

pub returns : goal.returns
unfolding agrees is_row classes numbers
returns c = rw c.search.ensures (class_found c.args.name.now _ refl)
