-- The number of each refusal (document 01, "What is turned away"; document 02).
use Rattle.std.specs.Prelude.{ℕ}
use Rattle.refusal.specs.declared.Refusal.{Refusal}
use Rattle.refusal.specs.declared.Refusal.TheVariants.{Alphabet, TextLength, TextByte, MisplacedSign, Depth, Count, Bracket, Foreign, Letters}
use Rattle.refusal.specs.declared.Refusal.TheVariants.{FormMemory, BadForm, Matrix, Cost, OutputMemory, Work, NoReading, Label, Sheet, ClassName, WordList}

abbrev pub number_of : Refusal → ℕ
number_of Alphabet = 1
number_of TextLength = 2
number_of TextByte = 3
number_of MisplacedSign = 4
number_of Depth = 5
number_of Count = 6
number_of Bracket = 7
number_of Foreign = 8
number_of Letters = 9
number_of FormMemory = 10
number_of BadForm = 11
number_of Matrix = 12
number_of Cost = 13
number_of OutputMemory = 14
number_of Work = 15
number_of NoReading = 16
number_of Label = 17
number_of Sheet = 18
number_of ClassName = 19
number_of WordList = 21
