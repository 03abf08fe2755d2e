-- `compile_list::check_list` meets its contract: past the lines, a byte that is foreign makes a word foreign.
use Rattle.std.proofs.Common.{◌≤◌, length, sym, ◌∙◌, rules, tests}
use Rattle.compile_list.proofs.CallLaws.{refused_foreign, list_passed}
use Rattle.compile_list.proofs.check_list.Goals as goal

pub returns-then-has_strange : goal.returns-then-has_strange
returns-then-has_strange c =
    let s = c.args.list.now in
    let low : 1 ≤ length s = search (rules, tests) in
    let high : length s ≤ 4096 = search (rules, tests) in
    sym
    (refused_foreign c.args.alphabet.now s (sym c.is_alphabet.ensures ∙ c.if-not-is_alphabet.false) low high
    (sym c.are_list_bytes.ensures ∙ c.if-not-are_list_bytes.false) (sym c.has_fault.ensures ∙ c.if-has_fault.false)
    (sym c.has_strange.ensures ∙ c.if-has_strange.true))

pub returns : goal.returns
returns c =
    let s = c.args.list.now in
    let low : 1 ≤ length s = search (rules, tests) in
    let high : length s ≤ 4096 = search (rules, tests) in
    sym
    (list_passed c.args.alphabet.now s (sym c.is_alphabet.ensures ∙ c.if-not-is_alphabet.false) low high
    (sym c.are_list_bytes.ensures ∙ c.if-not-are_list_bytes.false) (sym c.has_fault.ensures ∙ c.if-has_fault.false)
    (sym c.has_strange.ensures ∙ c.if-has_strange.false))
