-- `sheet_answer::answer` meets its contract: 18 for what is no sheet, else what is printed for the lines and the costs of the sheet.
use Rattle.std.specs.Prelude.{ℕ, ◌+◌, ◌-◌, ◌*◌, List, take, drop}
use Rattle.std.proofs.Common.{sym, subst, arith}
use lib.ListN.{replicate}
use lib.Seq.{length-take-le}
use Rattle.refusal.specs.declared.Refusal.TheVariants.{Sheet}
use Rattle.matrix.specs.Matrix.{matrix}
use Rattle.sheet_scan.specs.Answers.{Scans}
use Rattle.sheet_lines.specs.Lines.{refusal_line}
use Rattle.sheet_lines.specs.LengthsLaws.{refusal_short}
use Rattle.sheet_read.specs.Answer.{PrintsReading}
use Rattle.sheet_read.proofs.PromiseLaws.{answers, answers_as}
use Rattle.sheet_answer.specs.Answer.{Prints}
use Rattle.sheet_answer.specs.SheetsLaws.{laid_out, no_sheet}
use Rattle.sheet_answer.proofs.answer.Goals as goal

-- the costs as they were lent to the scan
abbrev lent : List ℕ
lent = replicate 16384 0

pub print_refusal-requires : goal.print_refusal-requires
print_refusal-requires c = let l = refusal_short Sheet in omega (arith, c.requires)

pub returns-in_default : goal.returns-in_default
returns-in_default c =
    let i = c.args.input.now in
    let left = c.scan.new.costs in
    answers (Prints i) (refusal_line 18) c.args.out.now c.print_refusal.new.out c.print_refusal.result
    (no_sheet i lent left (subst (Scans i lent left) c.in_default.is c.scan.ensures)) c.print_refusal.ensures

pub overflow_add-begin : goal.overflow_add-begin
overflow_add-begin c =
    let i = c.args.input.now in
    let left = c.scan.new.costs in
    let s = c.in-Some in
    let p = laid_out i lent left s.sheet (subst (Scans i lent left) s.is c.scan.ensures) in
    omega arith

pub overflow_add-end : goal.overflow_add-end
overflow_add-end c =
    let i = c.args.input.now in
    let left = c.scan.new.costs in
    let s = c.in-Some in
    let p = laid_out i lent left s.sheet (subst (Scans i lent left) s.is c.scan.ensures) in
    omega arith

pub overflow_mul-size : goal.overflow_mul-size
overflow_mul-size c =
    let i = c.args.input.now in
    let left = c.scan.new.costs in
    let s = c.in-Some in
    let p = laid_out i lent left s.sheet (subst (Scans i lent left) s.is c.scan.ensures) in
    omega arith

pub slice_bounds-answer_reading-end : goal.slice_bounds-answer_reading-end
slice_bounds-answer_reading-end c =
    let i = c.args.input.now in
    let left = c.scan.new.costs in
    let s = c.in-Some in
    let p = laid_out i lent left s.sheet (subst (Scans i lent left) s.is c.scan.ensures) in
    sym (length-take-le s.sheet.alphabet i (omega arith))

pub slice_bounds-answer_reading-end-2 : goal.slice_bounds-answer_reading-end-2
slice_bounds-answer_reading-end-2 c =
    let i = c.args.input.now in
    let left = c.scan.new.costs in
    let s = c.in-Some in
    let p = laid_out i lent left s.sheet (subst (Scans i lent left) s.is c.scan.ensures) in
    omega arith

pub slice_bounds-costs-end : goal.slice_bounds-costs-end
slice_bounds-costs-end c =
    let i = c.args.input.now in
    let left = c.scan.new.costs in
    let s = c.in-Some in
    (laid_out i lent left s.sheet (subst (Scans i lent left) s.is c.scan.ensures)).room

pub slice_bounds-answer_reading-end-3 : goal.slice_bounds-answer_reading-end-3
slice_bounds-answer_reading-end-3 c =
    let i = c.args.input.now in
    let left = c.scan.new.costs in
    let s = c.in-Some in
    let p = laid_out i lent left s.sheet (subst (Scans i lent left) s.is c.scan.ensures) in
    sym (length-take-le (s.sheet.count * s.sheet.width) left p.room)

pub returns : goal.returns
returns c =
    let i = c.args.input.now in
    let left = c.scan.new.costs in
    let s = c.in-Some in
    let p = laid_out i lent left s.sheet (subst (Scans i lent left) s.is c.scan.ensures) in
    answers_as
    (PrintsReading (take s.sheet.alphabet i) (take (s.sheet.alphabet + 1 + s.sheet.text - (s.sheet.alphabet + 1)) (drop (s.sheet.alphabet + 1) i))
    (matrix (take (s.sheet.count * s.sheet.width) left) s.sheet.width s.sheet.count)) (Prints i) c.args.out.now c.answer_reading.new.out c.answer_reading.result p.prints
    c.answer_reading.ensures
