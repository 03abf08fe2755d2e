-- `read_spelling::write_characters` meets its contract: the labels before x are replaced by their characters, the others are still there.
use Rattle.std.specs.Prelude.{◌≡◌, get_or}
use Rattle.lists.proofs.UptoLoops.{Upto}
use Rattle.alphabet.specs.Labels.{character}
use Rattle.read_spelling.proofs.write_characters.Given as goal

abbrev pub invariant-loop-x : goal.invariant-loop-x
invariant-loop-x l = Upto 0 (λ k c. c ≡ character l.alphabet (get_or l.initial.x-items k 0)) l.initial.x-items l.x-index l.x-items
