-- `form_encode::write_letters` meets its contract: the head's place, what is written and the letters still to come make the whole.
use Prim.Native.Nat.{◌+◌}
use mathlib.Core.Path.{◌≡◌, subst}
use mathlib.Core.List.{[], ◌∷◌, ◌++◌, map}
use native.Mathlib.Omega.{arith}
use lib.ListN.{take}
use Rattle.lists.proofs.FillingLoops.{Filling, filling_from, filling_more, filling_room, filling_stored_all}
use Rattle.form_encode.specs.Parts.{letter_by, letters_by}
use Rattle.form_encode.specs.PartsLaws.{letters_first}
use Rattle.lists.proofs.RemainingLoops.{from, map_here, map_past}
use Rattle.form_encode.proofs.write_letters.Goals as goal

pub loop-letter-init : goal.loop-letter-init
loop-letter-init c =
    let s = c.args in
    let f = s.form.now in
    let whole = letters_by s.a.letters s.a.labels.now s.a.first.now s.a.last.now in
    subst (λ t. Filling (take 1 f ++ whole) f f t 1) (letters_first s.a.letters s.a.labels.now s.a.first.now s.a.last.now)
    (filling_from whole f 1 c.requires)

pub bounds-form-letter : goal.bounds-form-letter
bounds-form-letter c =
    -- the form has room for the letter
    let s = c.args in
    let l = c.loop-letter in
    let whole = letters_by s.a.letters s.a.labels.now s.a.first.now s.a.last.now in
    let word = letter_by s.a.labels.now s.a.first.now s.a.last.now in
    let h =
    filling_room (take 1 s.form.now ++ whole) s.form.now (word l.letter ∷ []) l.form (map word (from s.a.letters (l.letter + 1))) l.letter
    (rw (map_here s.a.letters word l.letter (omega arith)) at l.invariant) in
    omega arith

pub loop-letter-preserved : goal.loop-letter-preserved
loop-letter-preserved c =
    let s = c.args in
    let l = c.loop-letter in
    let f = s.form.now in
    let whole = letters_by s.a.letters s.a.labels.now s.a.first.now s.a.last.now in
    let word = letter_by s.a.labels.now s.a.first.now s.a.last.now in
    let w = c.letter_word in
    rw w.ensures
    (filling_more (take 1 f ++ whole) f l.form (map word (from s.a.letters (l.letter + 1))) l.letter (word l.letter)
    (rw (map_here s.a.letters word l.letter (omega arith)) at l.invariant))

pub returns : goal.returns
returns c =
    let s = c.args in
    let l = c.loop-letter in
    let whole = letters_by s.a.letters s.a.labels.now s.a.first.now s.a.last.now in
    let word = letter_by s.a.labels.now s.a.first.now s.a.last.now in
    let end : s.a.letters + 1 ≡ l.letter = omega arith in
    rw end
    (filling_stored_all whole s.form.now 1 c.requires l.form l.letter
    (rw (map_past s.a.letters word l.letter (omega arith)) at l.invariant))
