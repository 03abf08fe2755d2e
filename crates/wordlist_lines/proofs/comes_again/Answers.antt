-- `wordlist_lines::comes_again` meets its contract: the first line of the rest is the line, or the lines after it decide.
use Rattle.std.proofs.Common.{◌≡◌, true, false, sym, ◌∙◌, rules}
use Rattle.lists.specs.Lists.{same_list}
use Rattle.wordlist_lines.specs.FirstLineLaws.{again_first, again_after, again_at_end}
use Rattle.wordlist_lines.proofs.comes_again.Goals as goal

pub returns-then-eq : goal.returns-then-eq
returns-then-eq c =
    let line = c.args.line.now in
    let s = c.in-Some in
    let same : c.eq.result ≡ same_list line s.next.now = search rules in
    c.loop-next.invariant true (again_first c.loop-next.rest.now s.next.now s.after.now s.ensures line (sym same ∙ c.if-eq.true))

pub loop-next-preserved : goal.loop-next-preserved
loop-next-preserved c =
    let line = c.args.line.now in
    let s = c.in-Some in
    let same : c.eq.result ≡ same_list line s.next.now = search rules in
    λ r h. c.loop-next.invariant r (again_after c.loop-next.rest.now s.next.now s.after.now s.ensures line r (sym same ∙ c.if-eq.false) h)

pub returns : goal.returns
returns c = c.loop-next.invariant false (again_at_end c.loop-next.rest.now c.in_default.ensures c.args.line.now)
