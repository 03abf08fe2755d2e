-- `trellis_keys::fill_keys` meets its contract: the keys of the letters so far are written.
use Rattle.trellis_keys.specs.Keys.{KeysBelow}
use Rattle.trellis_keys.proofs.fill_keys.Given as goal

abbrev pub invariant-loop-j : goal.invariant-loop-j
invariant-loop-j l = KeysBelow l.form.words.now l.column l.work l.next l.initial.keys l.keys l.j
