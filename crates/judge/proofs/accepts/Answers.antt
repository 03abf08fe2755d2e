-- `judge::accepts` meets its contract: what is left of the word, from the present set, decides.
use Rattle.std.specs.Prelude.{◌↔◌}
use Rattle.std.proofs.Common.{sym, subst, arith}
use Rattle.automaton.specs.Automaton.{Accepts}
use Rattle.automaton.specs.Form.{view, alphabet_of}
use Rattle.automaton.proofs.ValidLaws.{valid_proper}
use Rattle.form_sets.specs.Loops.{SpellsFrom, begin, set_more, set_end}
use Rattle.judge.proofs.accepts.Goals as goal

pub loop-x-init : goal.loop-x-init
loop-x-init c =
    let f = c.args.form.words.now in
    let w = c.args.word.now in
    subst (λ s. Accepts (view f) w ↔ SpellsFrom (view f) s w) (sym c.no_letter-set.ensures) (begin (view f) w)

pub loop-x-preserved : goal.loop-x-preserved
loop-x-preserved c =
    let a = c.args in
    let l = c.loop-x in
    set_more (view a.form.words.now) a.word.now l.set l.x-index l.invariant c.advance-next.result (omega arith)
    (rw (c.new-arcs.ensures, c.from.ensures) at c.advance-next.ensures)

pub returns : goal.returns
returns c =
    let a = c.args in
    let l = c.loop-x in
    let f = a.form.words.now in
    set_end (view f) a.word.now l.set l.x-index l.invariant (alphabet_of f) c.some_may_end.result (valid_proper f a.form.valid) (omega arith) c.some_may_end.ensures
