-- `wordlist_build::Trie::push_all` meets its contract: the letters of the labels up to i are there.
use Rattle.std.proofs.Common.{◌+◌, ◌∙◌, ap, subst, sym, arith, rules}
use Rattle.wordlist_build.specs.Arrays.{Roomy, moved}
use Rattle.wordlist_build.specs.Loops.{Pushing, pushing_none, pushing_fits, pushing_label, pushing_other, pushing_end}
use Rattle.wordlist_build.proofs.Trie.push_all.Goals as goal
use Rattle.wordlist_build.proofs.Trie.push_all.Goals.{then-c-character, else-c-character}

pub loop-i-init : goal.loop-i-init
loop-i-init c =
    let roomy : Roomy c.args.self.now = search rules in
    pushing_none c.args.alphabet.now c.args.character c.args.self.now (c.args.self.now.letters + 1) roomy c.requires.1

pub push-requires : goal.push-requires
push-requires c =
    pushing_fits c.args.alphabet.now c.args.character c.args.self.now (c.args.self.now.letters + 1) c.loop-i.i c.loop-i.self c.loop-i-test.true
    c.loop-i.invariant c.if-c-character.true

pub loop-i-preserved : goal.loop-i-preserved
loop-i-preserved c =
    let A = c.args.alphabet.now in
    let b = c.args.character in
    let t = c.args.self.now in
    let h = t.letters + 1 in
    let l = c.loop-i in
    elim c.if-c-character.branch [
      | then-c-character w ↦
          pushing_label A b t h l.i l.self c.loop-i-test.true l.invariant c.if-c-character.self w.if-c-character.true (w.self-is ∙ w.push.ensures)
      | else-c-character w ↦
          subst (Pushing A b t h (l.i + 1 + 1)) (sym w.self-is) (pushing_other A b t h l.i l.self c.loop-i-test.true l.invariant w.if-c-character.false)
    ]

pub returns : goal.returns
returns c =
    let t = c.args.self.now in
    let h = t.letters + 1 in
    let l = c.loop-i in
    ap (λ r. moved r h) (pushing_end c.args.alphabet.now c.args.character t h (l.i + 1) l.self (omega arith) l.invariant)
