-- `regex_repetition::number` meets its contract: n is what the digits before this one make.
use Rattle.regex_repetition.specs.CountLaws.{Digits}
use Rattle.regex_repetition.proofs.number.Given as goal

abbrev pub invariant-loop-b : goal.invariant-loop-b
invariant-loop-b l = Digits l.digits l.b-index l.n
