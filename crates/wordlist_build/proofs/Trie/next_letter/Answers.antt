-- `wordlist_build::Trie::next_letter` meets its contract: the letters from i + 1 on decide.
use Rattle.std.proofs.Common.{◌+◌, sym, arith}
use Rattle.lists.proofs.LowestLaws.{seeking_more, seeking_found, seeking_none}
use Rattle.wordlist_build.specs.Arrays.{leads_on}
use Rattle.wordlist_build.specs.Loops.{leads_here, leads_elsewhere, leads_otherwise}
use Rattle.wordlist_build.proofs.Trie.next_letter.Goals as goal
use Rattle.wordlist_build.proofs.Trie.next_letter.Goals.{else-self-i-via-then-self-i+else-self-i-2, else-self-i-via-else-self-i}

pub returns-then-self-i-2 : goal.returns-then-self-i-2
returns-then-self-i-2 c =
    let t = c.args.self.now in
    let i = c.loop-i.i in (
      seeking_found (leads_on t c.args.character) t.letters (i + 1) (omega arith)
          (leads_here t c.args.character i c.if-self-i.true c.if-self-i-2.true) c.loop-i.invariant,
      omega arith,
    )

pub loop-i-preserved : goal.loop-i-preserved
loop-i-preserved c =
    let t = c.args.self.now in
    let i = c.loop-i.i in
    seeking_more (leads_on t c.args.character) t.letters (i + 1) (omega arith)
    (elim c.else-self-i.branch [
      | else-self-i-via-then-self-i+else-self-i-2 w ↦ leads_otherwise t c.args.character i w.if-self-i.true w.if-self-i-2.false
      | else-self-i-via-else-self-i w ↦ leads_elsewhere t c.args.character i w.if-self-i.false
    ]) c.loop-i.invariant

pub returns : goal.returns
returns c =
    let t = c.args.self.now in
    sym (seeking_none (leads_on t c.args.character) t.letters (c.loop-i.i + 1) (omega arith) c.loop-i.invariant)
