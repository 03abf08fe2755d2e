-- `form_encode::write_words` meets its contract: the head, the letters and the arcs are the form's words.
use mathlib.Core.Path.{◌≡◌, sym, ap, ◌∙◌}
use mathlib.Core.List.{List, ◌∷◌, ◌++◌}
use mathlib.Core.Bool.{Bool}
use Prim.Native.Nat.{ℕ}
use native.Mathlib.Omega.{arith}
use Rattle.automaton.specs.Form.{encode, head_word}
use Rattle.form_encode_arcs.specs.Arcs.{arcs_by}
use Rattle.automaton.specs.Arrays.{arrayed}
use Rattle.form_encode.specs.Parts.{letters_by}
use Rattle.form_encode.specs.PartsLaws.{arrayed_words}
use Rattle.form_encode.specs.WholeLaws.{length_words, letters_room, arcs_room, all_written}
use Rattle.form_encode.proofs.write_words.Goals as goal

pub bounds-form-0 : goal.bounds-form-0
bounds-form-0 c =
    let s = c.args in
    let h = c.requires in
    omega (arith, length_words s.a.alphabet s.a.letters s.a.empty s.a.labels.now s.a.first.now s.a.last.now s.a.follow.now)

-- the form is the head that was written, the letters and the arcs
words :
    (k letters : ℕ) (empty : Bool) (labels : List ℕ) (first last : List Bool) (follow : List (List Bool)) (head : ℕ)
    → head ≡ head_word letters empty k
    → encode k (arrayed letters empty labels first last follow) ≡ head ∷ (letters_by letters labels first last ++ arcs_by letters follow)
words k letters empty labels first last follow head e =
    let rest = letters_by letters labels first last ++ arcs_by letters follow in
    arrayed_words empty labels first last follow letters k
    ∙ ap (λ h. h ∷ rest) (sym e)

pub write_letters-n-requires : goal.write_letters-n-requires
write_letters-n-requires c =
    let s = c.args in
    let h = s.a.sized in
    let whole = encode s.a.alphabet (arrayed s.a.letters s.a.empty s.a.labels.now s.a.first.now s.a.last.now s.a.follow.now) in
    let letters = letters_by s.a.letters s.a.labels.now s.a.first.now s.a.last.now in
    letters_room whole c.head_word.result letters (arcs_by s.a.letters s.a.follow.now) s.form.now (words s.a.alphabet s.a.letters s.a.empty s.a.labels.now s.a.first.now s.a.last.now s.a.follow.now c.head_word.result c.head_word.ensures) c.requires

pub write_arcs-requires : goal.write_arcs-requires
write_arcs-requires c =
    let s = c.args in
    let h = s.a.sized in
    let whole = encode s.a.alphabet (arrayed s.a.letters s.a.empty s.a.labels.now s.a.first.now s.a.last.now s.a.follow.now) in
    let letters = letters_by s.a.letters s.a.labels.now s.a.first.now s.a.last.now in
    let w = c.write_letters-n in (
      h.few,
      h.followers,
      arcs_room whole c.head_word.result letters (arcs_by s.a.letters s.a.follow.now) s.form.now (words s.a.alphabet s.a.letters s.a.empty s.a.labels.now s.a.first.now s.a.last.now s.a.follow.now c.head_word.result c.head_word.ensures) c.requires
          w.new.form w.result w.ensures,
    )

pub returns : goal.returns
returns c =
    let s = c.args in
    let whole = encode s.a.alphabet (arrayed s.a.letters s.a.empty s.a.labels.now s.a.first.now s.a.last.now s.a.follow.now) in
    let letters = letters_by s.a.letters s.a.labels.now s.a.first.now s.a.last.now in
    let w = c.write_letters-n in
    let a = c.write_arcs in
    all_written whole c.head_word.result letters (arcs_by s.a.letters s.a.follow.now) s.form.now (words s.a.alphabet s.a.letters s.a.empty s.a.labels.now s.a.first.now s.a.last.now s.a.follow.now c.head_word.result c.head_word.ensures) c.requires
    w.new.form w.result w.ensures a.new.form a.result a.ensures
