-- `form_starts::arc_starts` meets its contract: the starts noted so far are right, and the sources passed are below i.
use Rattle.std.specs.Prelude.{ℕ, ◌<◌, ◌≡◌, length, get_or}
use Rattle.form_starts.specs.Starts.{StartsAt}
use Rattle.form_starts.specs.Loops.{Passed}
use Rattle.form_starts.proofs.arc_starts.Given as goal

abbrev pub invariant-loop-i : goal.invariant-loop-i
invariant-loop-i l =
    (length l.starts ≡ 129)
    × Passed l.form.words.now l.i l.n
    × ((j : ℕ) → j < l.i → StartsAt l.form.words.now j (get_or l.starts j 0))
