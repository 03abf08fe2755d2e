-- `wordlist_lines::has_fault` meets its contract: the first line of the rest is at fault, or the lines after it decide.
use Rattle.std.proofs.Common.{sym, ◌∙◌, rules, tests}
use Rattle.wordlist_lines.specs.FirstLineLaws.{fault_of_empty, fault_of_again, fault_of_rest, fault_at_end}
use Rattle.wordlist_lines.proofs.has_fault.Goals as goal
use Rattle.wordlist_lines.proofs.has_fault.Goals.{then-is_empty-via-then-is_empty, then-is_empty-via-else-is_empty+then-comes_again}

pub returns-then-is_empty : goal.returns-then-is_empty
returns-then-is_empty c =
    let s = c.in-Some in
    sym
    (sym c.loop-line.invariant
    ∙ elim c.then-is_empty.branch [
      | then-is_empty-via-then-is_empty w ↦ fault_of_empty _ _ _ s.ensures (search (rules, tests))
      | then-is_empty-via-else-is_empty+then-comes_again w ↦
          fault_of_again _ _ _ s.ensures (λ e. search (rules, tests)) w.comes_again.result w.comes_again.ensures w.if-comes_again.true
    ])

pub loop-line-preserved : goal.loop-line-preserved
loop-line-preserved c =
    let s = c.in-Some in
    sym (fault_of_rest _ _ _ s.ensures (λ e. search (rules, tests)) c.comes_again.result c.comes_again.ensures c.if-comes_again.false)
    ∙ c.loop-line.invariant

pub returns : goal.returns
returns c = sym (sym c.loop-line.invariant ∙ fault_at_end c.loop-line.rest.now c.in_default.ensures ∙ search (rules, tests))
