-- `wordlist_build::Trie::end_line` meets its contract: too many letters before, or the letters marked.
use Rattle.std.proofs.Common.{◌++◌, ◌∷◌, [], sym, subst, ◌∙◌, arith, rules}
use Rattle.wordlist_build.specs.Arrays.{Roomy, MarksEnds}
use Rattle.wordlist_build.specs.State.{State}
use Rattle.wordlist_build.specs.StateLaws.{line_over, line_marked}
use Rattle.wordlist_build.specs.declared.Trie.{Trie}
use Rattle.wordlist_build.proofs.Trie.end_line.Goals as goal

pub returns-then-self-gt127-clause-ends : goal.returns-then-self-gt127-clause-ends
returns-then-self-gt127-clause-ends c = λ A ws u s. line_over A ws u c.args.self.now c.if-self-gt127.true s

pub returns-clause-ends : goal.returns-clause-ends
returns-clause-ends c =
    let t = c.args.self.now in
    let l = c.loop-i in
    let roomy : Roomy t = search rules in
    let marks : MarksEnds t.letters t.heads t.last t.at l.self.last =
    record { size = l.invariant.0.size ∙ roomy.last; at = λ i h. l.invariant.0.done i (omega arith) } in
    λ A ws u s.
    subst
    (λ (r : Trie).
    State A (ws ++ (u ∷ [])) []
    (record { letters = r.letters; at = 0; labels = r.labels; characters = r.characters; parents = r.parents; heads = r.heads; last = l.self.last }))
    (sym l.invariant.1) (line_marked A ws u t l.self.last c.if-self-gt127.false marks s)

pub returns-clause-roomy : goal.returns-clause-roomy
returns-clause-roomy c =
    let t = c.args.self.now in
    let l = c.loop-i in
    let roomy : Roomy t = search rules in
    subst
    (λ (r : Trie).
    Roomy (record { letters = r.letters; at = 0; labels = r.labels; characters = r.characters; parents = r.parents; heads = r.heads; last = l.self.last }))
    (sym l.invariant.1)
    (record { labels = roomy.labels; characters = roomy.characters; parents = roomy.parents; heads = roomy.heads; last = l.invariant.0.size ∙ roomy.last })
