-- `form_check::checked` meets its contract: a list that passes the check has the facts of a valid form.
use mathlib.Core.Path.{sym, ◌∙◌}
use Rattle.automaton.proofs.ValidLaws.{valid_at}
use Rattle.form_check.proofs.checked.Goals as goal

pub new-requires : goal.new-requires
new-requires c = valid_at c.args.words.now (sym c.valid.ensures ∙ c.if-valid.true)
