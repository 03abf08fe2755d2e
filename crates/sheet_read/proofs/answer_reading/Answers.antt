-- `sheet_read::answer_reading` meets its contract: Read's answer is printed, with the path and the word that Read left in lent memory.
use Prim.Native.Nat.{ℕ}
use mathlib.Core.Path.{◌≡◌}
use mathlib.Core.List.{List}
use native.Mathlib.Omega.{arith}
use lib.ListN.{length, replicate, length-replicate}
use Rattle.answers.specs.Reading.{reported}
use Rattle.matrix.specs.Matrix.{matrix}
use Rattle.decode_valid.specs.Lent.{Lent}
use Rattle.sheet_print.specs.Printed.{answer_lines}
use Rattle.sheet_read.specs.Answer.{PrintsReading}
use Rattle.sheet_read.proofs.PromiseLaws.{answers}
use Rattle.sheet_read.proofs.LongestLaws.{reading_bound}
use Rattle.sheet_read.proofs.StepsLaws.{Sized, said, said_shown, said_lines}
use Rattle.sheet_read.proofs.answer_reading.Goals as goal

abbrev zeros : ℕ → List ℕ
zeros n = replicate n 0

-- what is lent to Read
abbrev before : Lent
before = record { path = zeros 255; word = zeros 255; work = zeros 16384 }

sized : Sized (zeros 16384) before
sized = let size : (n : ℕ) → length (zeros n) ≡ n = λ n. length-replicate n 0 in record { words = size 16384; path = size 255; word = size 255; work = size 16384 }

pub print_answer-requires : goal.print_answer-requires
print_answer-requires c =
    let A = c.args.alphabet.now in
    let t = c.args.text.now in
    let m = matrix c.args.costs.now c.args.width c.args.count in
    -- path, word and work memory as Read left them
    let left : Lent = record { path = c.read-answer.new.path; word = c.read-answer.new.word; work = c.read-answer.new.work } in
    let r = said A t m before left (reported c.read-answer.result) (zeros 16384) c.read-answer.new.form sized c.read-answer.ensures in
    let short = reading_bound A t m _ (said_lines (PrintsReading A t m) A m before left c.read-answer.result r) in
    (said_shown (PrintsReading A t m) A m before left c.read-answer.result r, omega (arith, c.requires))

pub returns : goal.returns
returns c =
    let A = c.args.alphabet.now in
    let t = c.args.text.now in
    let m = matrix c.args.costs.now c.args.width c.args.count in
    let left : Lent = record { path = c.read-answer.new.path; word = c.read-answer.new.word; work = c.read-answer.new.work } in
    let r = said A t m before left (reported c.read-answer.result) (zeros 16384) c.read-answer.new.form sized c.read-answer.ensures in
    answers (PrintsReading A t m) (answer_lines c.read-answer.result c.args.count left.path left.word) c.args.out.now c.print_answer.new.out
    c.print_answer.result (said_lines (PrintsReading A t m) A m before left c.read-answer.result r) c.print_answer.ensures
