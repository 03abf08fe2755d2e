-- `compile::write` meets its contract: the arrays built hold the automaton of the text's tree, and they are written as its form.
use mathlib.Core.Path.{subst}
use lib.ListN.{length}
use Rattle.refusal.specs.Fills.{reported, Fills}
use Rattle.compile.proofs.CallLaws.{buildable, told_call}
use Rattle.compile.proofs.write.Goals as goal

pub build-built-requires : goal.build-built-requires
build-built-requires c = buildable c.args.alphabet.now c.args.text.now c.requires.0 c.requires.1

pub returns : goal.returns
returns c =
    subst (λ v. Fills v (reported c.write_form.result) c.args.form.now c.write_form.new.form)
    (told_call c.args.alphabet.now c.args.text.now c.requires.1 (length c.args.form.now) c.build-built.ensures) c.write_form.ensures
