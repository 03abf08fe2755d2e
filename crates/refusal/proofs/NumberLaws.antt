-- Laws of the numbers of refusals.
use Rattle.std.specs.Prelude.{◌≤◌, ◌<◌}
use Rattle.std.proofs.Common.{arith}
use Rattle.refusal.specs.declared.Refusal.{Refusal}
use Rattle.refusal.specs.declared.Refusal.TheVariants.{Alphabet, TextLength, TextByte, MisplacedSign, Depth, Count, Bracket, Foreign, Letters, FormMemory, BadForm, Matrix, Cost, OutputMemory, Work, NoReading, Label, Sheet, ClassName, WordList}
use Rattle.refusal.specs.Number.{number_of}

-- no refusal has the number 0, and none has more than two digits
pub number_between : (n : Refusal) → (1 ≤ number_of n) × (number_of n < 100)
number_between Alphabet = (omega arith, omega arith)
number_between TextLength = (omega arith, omega arith)
number_between TextByte = (omega arith, omega arith)
number_between MisplacedSign = (omega arith, omega arith)
number_between Depth = (omega arith, omega arith)
number_between Count = (omega arith, omega arith)
number_between Bracket = (omega arith, omega arith)
number_between Foreign = (omega arith, omega arith)
number_between Letters = (omega arith, omega arith)
number_between FormMemory = (omega arith, omega arith)
number_between BadForm = (omega arith, omega arith)
number_between Matrix = (omega arith, omega arith)
number_between Cost = (omega arith, omega arith)
number_between OutputMemory = (omega arith, omega arith)
number_between Work = (omega arith, omega arith)
number_between NoReading = (omega arith, omega arith)
number_between Label = (omega arith, omega arith)
number_between Sheet = (omega arith, omega arith)
number_between ClassName = (omega arith, omega arith)
number_between WordList = (omega arith, omega arith)
