-- What a form accepts, in the two cases of document 01: the empty word, and a nonempty word.
use Rattle.std.specs.Prelude.{ℕ, ◌≤◌, ◌≡◌, refl, true, ◌↔◌, List, [], ◌∷◌, get_or}
use Rattle.std.proofs.Common.{sym, ap₂, subst, ◌∙◌, arith}
use Rattle.lists.specs.Lists.{Among}
use Rattle.lists.specs.Each.{Each}
use Rattle.automaton.specs.Automaton.{Walk, Accepts}
use Rattle.automaton.specs.Form.{arc_word, bit8, bit9, arc_words, valid_form, follow_of, view}
use Rattle.automaton.specs.WordsLaws.{arc_fields}
use Rattle.automaton.specs.Valid.{Valid}
use Rattle.automaton.proofs.ValidLaws.{valid_at, follow_arc, arc_among, among_follow, may_be_first, may_be_last, accepts_empty, first_letter, follow_target}
use Rattle.automaton.specs.FormAccepts.{OfForm, Along, last_of, WalkSpells}

-- of every list, a form or not
pub empty_accepted : (f : List ℕ) → Accepts (view f) [] ↔ (bit8 (get_or f 0 0) ≡ true)
empty_accepted f = (there, λ e. ([], accepts_empty f ∙ e, refl))
  where
    there : Accepts (view f) [] → bit8 (get_or f 0 0) ≡ true
    there ([], walk, e) = sym (accepts_empty f) ∙ walk
    there (j ∷ js, walk, e) = let z : ◌≡◌ {A = ℕ} 0 1 = cc in absurd (omega arith)

-- of a valid form; in another list an arc may lead to a number that is no letter
module _ (f : List ℕ) (valid : valid_form f ≡ true) where
  facts : Valid f
  facts = valid_at f valid

  follow_word : (i j : ℕ) → 1 ≤ i → follow_of f i j ≡ true → Among (arc_word i j) (arc_words f)
  follow_word i j l e =
      let a = follow_arc f i j l e in
      subst (λ v. Among v (arc_words f)) ((facts.arc a.index a.past a.inside).same ∙ ap₂ arc_word a.from a.to)
      (arc_among f a.index a.past a.inside)

  word_follow : (i j : ℕ) → OfForm f i → OfForm f j → Among (arc_word i j) (arc_words f) → follow_of f i j ≡ true
  word_follow i j p q m =
      let e = arc_fields i j (omega arith) (omega arith) in
      among_follow f (arc_word i j) i j p.0 e.0 e.1 m

  walk_along : (i : ℕ) (js : List ℕ) → OfForm f i → Walk (view f) i js → Each (OfForm f) js × Along f i js × (bit9 (get_or f (last_of i js) 0) ≡ true)
  walk_along i [] p e = (tt, tt, sym (may_be_last f i p.0 p.1) ∙ e)
  walk_along i (j ∷ js) p walk =
      let q = follow_target f facts i j walk.0 in
      let r = walk_along j js q walk.1 in
      ((q, r.0), (follow_word i j p.0 walk.0, r.1), r.2)

  along_walk : (i : ℕ) (js : List ℕ) → OfForm f i → Each (OfForm f) js → Along f i js → bit9 (get_or f (last_of i js) 0) ≡ true → Walk (view f) i js
  along_walk i [] p ps a e = may_be_last f i p.0 p.1 ∙ e
  along_walk i (j ∷ js) p ps a e = (word_follow i j p ps.0 a.0, along_walk j js ps.0 ps.1 a.1 e)

  pub nonempty_accepted : (x : ℕ) (w : List ℕ) → Accepts (view f) (x ∷ w) ↔ WalkSpells f (x ∷ w)
  nonempty_accepted x w = (there, back)
    where
      there : Accepts (view f) (x ∷ w) → WalkSpells f (x ∷ w)
      there ([], walk, e) = let z : ◌≡◌ {A = ℕ} 0 1 = cc in absurd (omega arith)
      there (j ∷ js, walk, e) =
          let p = first_letter f j walk.0 in
          let r = walk_along j js p walk.1 in
          record {
            start = j;
            more = js;
            letters = (p, r.0);
            first = sym (may_be_first f j p.0 p.1) ∙ walk.0;
            arcs = r.1;
            last = r.2;
            spells = e;
          }

      back : WalkSpells f (x ∷ w) → Accepts (view f) (x ∷ w)
      back s =
          let p = s.letters.0 in (
            s.start ∷ s.more,
            (may_be_first f s.start p.0 p.1 ∙ s.first, along_walk s.start s.more p s.letters.1 s.arcs s.last),
            s.spells,
          )
