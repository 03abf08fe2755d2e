-- The round trip between forms and automata: the form of a proper automaton is valid and stands for it, and a valid form is the form of
-- the automaton that it stands for.
use Prim.Native.Nat.{ℕ, zero, suc, ◌+◌, ◌-◌, ◌<◌, ◌≤◌}
use Rattle.std.specs.Prelude.{◌≡◌, refl, true, ◌↔◌, eqb, length, get_or}
use Rattle.std.proofs.Math.Path.{sym, ap, ap₂}
use Rattle.std.proofs.Common.{subst, ◌∙◌, drop-cons, drop-drop, ext_get_or, get_or-take, get_or-drop, eq-eqb, eqb-true}
use mathlib.Core.List.{List, ◌∷◌, ◌++◌, map, flat_map}
use native.Mathlib.Omega.{arith}
use Rattle.std.proofs.Math.ListN.{drop, length-append, take-append-drop}
use Rattle.std.proofs.lemmas.List.{length-map}
use Rattle.std.proofs.Math.Seq.{take_at, drop_at}
use Rattle.lists.proofs.OrderLaws.{same_truth, and_left, and_right, and_both}
use Rattle.lists.specs.Lists.{Among, any, keep, numbers, Ascending}
use Rattle.lists.specs.Each.{Each}
use Rattle.lists.proofs.AmongLaws.{any_among, among_any, among_each, each_among, among_map, map_among, among_keep, keep_among, among_flat, flat_among}
use Rattle.lists.proofs.AscendingLaws.{length_numbers, map_numbers_at, among_numbers, numbers_among, ascending_numbers, ascending_keep, ascending_map, ascending_flat, ascending_same}
use Rattle.automaton.specs.Automaton.{Automaton, Accepts}
use Rattle.automaton.specs.Proper.{Proper}
use Rattle.automaton.proofs.AcceptedLaws.{Agree, agree_accepts}
use Rattle.automaton.specs.Form.{head_word, letter_word, arc_word, byte0, bit8, bit9, source, target, valid_form, letters_of, alphabet_of, label_of, letter_words, arc_words, follow_of, ends_of, leads, view, letter_of, arcs_from, encode}
use Rattle.automaton.specs.WordsLaws.{Head, Letter, Arc, head_fields, letter_fields, arc_fields}
use Rattle.automaton.specs.Valid.{Valid}
use Rattle.automaton.proofs.ValidLaws.{Parts, valid_parts, parts_valid, valid_at, view_proper, may_be_first, may_be_last, letter_at, length_letter_words, follow_arc, arc_among, among_follow}

-- the word of one of an automaton's arcs
record ArcOf (A : Automaton) (w : ℕ) : Type 0 where
  pub from : ℕ
  pub to : ℕ
  pub from_low : 1 ≤ from
  pub from_high : from ≤ A.letters
  pub to_low : 1 ≤ to
  pub to_high : to ≤ A.letters
  pub follows : A.follow from to ≡ true
  pub same : w ≡ arc_word from to

abbrev arcs_of : Automaton → List ℕ
arcs_of A = flat_map (arcs_from A) (numbers 1 A.letters)

module _ (A : Automaton) where
  letter_among : (i w : ℕ) → Among w (arcs_from A i) → (j : ℕ) × (1 ≤ j) × (j ≤ A.letters) × (A.follow i j ≡ true) × (w ≡ arc_word i j)
  letter_among i w m =
      let r = map_among (arc_word i) w (keep (A.follow i) (numbers 1 A.letters)) m in
      let q = keep_among (A.follow i) r.0 (numbers 1 A.letters) r.1 in
      let n = numbers_among 1 A.letters r.0 q.0 in
      (r.0, n.0, omega arith, q.1, r.2)

  arcs_among : (w : ℕ) → Among w (arcs_of A) → ArcOf A w
  arcs_among w m =
      let r = flat_among (arcs_from A) w (numbers 1 A.letters) m in
      let n = numbers_among 1 A.letters r.0 r.1 in
      let q = letter_among r.0 w r.2 in
      record { from = r.0; to = q.0; from_low = n.0; from_high = omega arith; to_low = q.1; to_high = q.2; follows = q.3; same = q.4 }

  among_arcs : (w : ℕ) → ArcOf A w → Among w (arcs_of A)
  among_arcs w a =
      let fh = a.from_high in
      let th = a.to_high in
      among_flat (arcs_from A) a.from w (numbers 1 A.letters)
      (among_numbers 1 A.letters a.from a.from_low (omega arith))
      (subst (λ v. Among v (arcs_from A a.from)) (sym a.same)
      (among_map (arc_word a.from) a.to (keep (A.follow a.from) (numbers 1 A.letters))
      (among_keep (A.follow a.from) a.to (numbers 1 A.letters) (among_numbers 1 A.letters a.to a.to_low (omega arith)) a.follows)))

  arcs_ascend : A.letters ≤ 127 → Ascending (arcs_of A)
  arcs_ascend few =
      ascending_flat (arcs_from A) (numbers 1 A.letters)
      (λ i m. ascending_map (arc_word i) (keep (A.follow i) (numbers 1 A.letters)) (λ a b p q l. omega arith)
      (ascending_keep (A.follow i) (numbers 1 A.letters) (ascending_numbers 1 A.letters)))
      (λ i j w v m n l p q.
      let a = letter_among i w p in
      let b = letter_among j v q in
      let e : w ≡ arc_word i a.0 = a.4 in
      let g : v ≡ arc_word j b.0 = b.4 in
      let h : a.0 ≤ A.letters = a.2 in
      omega arith)
      (ascending_numbers 1 A.letters)

-- From an automaton to its form.
module _ (k : ℕ) (A : Automaton) (proper : Proper k A) (some : 1 ≤ A.letters) (few : A.letters ≤ 127) (low : 1 ≤ k) (high : k ≤ 95) where
  pub letters_same : letters_of (encode k A) ≡ A.letters
  unfolding encode
  letters_same = (head_fields A.letters (A.ends 0) k (omega arith) (omega arith)).0

  pub alphabet_same : alphabet_of (encode k A) ≡ k
  unfolding encode
  alphabet_same = (head_fields A.letters (A.ends 0) k (omega arith) (omega arith)).2

  empty_same : bit8 (get_or (encode k A) 0 0) ≡ A.ends 0
  unfolding encode
  empty_same = (head_fields A.letters (A.ends 0) k (omega arith) (omega arith)).1

  size : length (map (letter_of A) (numbers 1 A.letters)) ≡ A.letters
  size = length-map (numbers 1 A.letters) (letter_of A) ∙ length_numbers 1 A.letters

  letters_are : letter_words (encode k A) ≡ map (letter_of A) (numbers 1 A.letters)
  unfolding encode
  letters_are = take_at (map (letter_of A) (numbers 1 A.letters)) (arcs_of A) (letters_of (encode k A)) (size ∙ sym letters_same)

  arcs_are : arc_words (encode k A) ≡ arcs_of A
  unfolding encode
  arcs_are = drop_at (map (letter_of A) (numbers 1 A.letters)) (arcs_of A) (letters_of (encode k A)) (size ∙ sym letters_same)

  letter_word_is : (j : ℕ) → 1 ≤ j → j ≤ A.letters → get_or (encode k A) j 0 ≡ letter_of A j
  letter_word_is j l h =
      let n = letters_same in
      sym (letter_at (encode k A) j l (omega arith))
      ∙ ap (λ ws. get_or ws (j - 1) 0) letters_are
      ∙ map_numbers_at (letter_of A) 1 A.letters (j - 1) 0 (omega arith)
      ∙ ap (letter_of A) (omega arith)

  letter_holds : (j : ℕ) → 1 ≤ j → j ≤ A.letters → Letter k (letter_of A j)
  letter_holds j l h =
      let p = proper.labelled j l h in
      let q = letter_fields (A.label j) (A.follow 0 j) (A.ends j) (omega arith) in
      record { same = cc; low = omega arith; high = omega arith }

  arc_holds : (w : ℕ) → ArcOf A w → Arc A.letters w
  arc_holds w a =
      let q = arc_fields a.from a.to (let h = a.from_high in omega arith) (let h = a.to_high in omega arith) in
      let s : source w ≡ a.from = ap source a.same ∙ q.0 in
      let t : target w ≡ a.to = ap target a.same ∙ q.1 in
      record {
        same = a.same ∙ ap₂ arc_word (sym s) (sym t);
        source_low = subst (λ n. 1 ≤ n) (sym s) a.from_low;
        source_high = subst (λ n. n ≤ A.letters) (sym s) a.from_high;
        target_low = subst (λ n. 1 ≤ n) (sym t) a.to_low;
        target_high = subst (λ n. n ≤ A.letters) (sym t) a.to_high;
      }

  head_holds : Head (get_or (encode k A) 0 0)
  unfolding encode
  head_holds =
      let q = head_fields A.letters (A.ends 0) k (omega arith) (omega arith) in
      record { same = cc; letters_low = omega arith; letters_high = omega arith; alphabet_low = omega arith; alphabet_high = omega arith }

  long_enough : A.letters < length (encode k A)
  unfolding encode
  long_enough = omega (arith, size, length-append (map (letter_of A) (numbers 1 A.letters)) (arcs_of A))

  encode_parts : Parts (encode k A)
  encode_parts =
      record {
        head = head_holds;
        long = subst (λ n. n < length (encode k A)) (sym letters_same) long_enough;
        letters =
            subst (λ n. Each (Letter n) (letter_words (encode k A))) (sym alphabet_same)
            (subst (Each (Letter k)) (sym letters_are)
            (among_each (Letter k) (map (letter_of A) (numbers 1 A.letters)) (λ w m.
            let r = map_among (letter_of A) w (numbers 1 A.letters) m in
            let n = numbers_among 1 A.letters r.0 r.1 in
            subst (Letter k) (sym r.2) (letter_holds r.0 n.0 (omega arith)))));
        arcs =
            subst (λ n. Each (Arc n) (arc_words (encode k A))) (sym letters_same)
            (subst (Each (Arc A.letters)) (sym arcs_are)
            (among_each (Arc A.letters) (arcs_of A) (λ w m. arc_holds w (arcs_among A w m))));
        order = subst Ascending (sym arcs_are) (arcs_ascend A few);
      }

  pub encode_valid : valid_form (encode k A) ≡ true
  encode_valid = parts_valid (encode k A) encode_parts

  follow_same : (i j : ℕ) → i ≤ A.letters → 1 ≤ j → j ≤ A.letters → A.follow i j ≡ follow_of (encode k A) i j
  unfolding follow_of
  follow_same zero j g l h =
      let p = proper.labelled j l h in
      let n = letters_same in
      sym
      (may_be_first (encode k A) j l (omega arith)
      ∙ ap bit8 (letter_word_is j l h)
      ∙ (letter_fields (A.label j) (A.follow 0 j) (A.ends j) (omega arith)).1)
  follow_same (suc i) j g l h = same_truth (A.follow (suc i) j) (any (leads (suc i) j) (arc_words (encode k A))) there back
    where
      fields : (source (arc_word (suc i) j) ≡ suc i) × (target (arc_word (suc i) j) ≡ j)
      fields = arc_fields (suc i) j (omega arith) (omega arith)

      there : A.follow (suc i) j ≡ true → any (leads (suc i) j) (arc_words (encode k A)) ≡ true
      there e =
          among_any (leads (suc i) j) (arc_word (suc i) j) (arc_words (encode k A))
          (subst (Among (arc_word (suc i) j)) (sym arcs_are)
          (among_arcs A (arc_word (suc i) j)
          (record { from = suc i; to = j; from_low = omega arith; from_high = g; to_low = l; to_high = h; follows = e; same = refl })))
          (and_both (eqb (source (arc_word (suc i) j)) (suc i)) (eqb (target (arc_word (suc i) j)) j)
          (eq-eqb (source (arc_word (suc i) j)) (suc i) fields.0)
          (eq-eqb (target (arc_word (suc i) j)) j fields.1))

      back : any (leads (suc i) j) (arc_words (encode k A)) ≡ true → A.follow (suc i) j ≡ true
      back e =
          let r = any_among (leads (suc i) j) (arc_words (encode k A)) e in
          let w : ℕ = r.0 in
          let a : ArcOf A w = arcs_among A w (subst (Among w) arcs_are r.1) in
          let q = arc_fields a.from a.to (let z = a.from_high in omega arith) (let z = a.to_high in omega arith) in
          let s : a.from ≡ suc i =
          sym (ap source a.same ∙ q.0) ∙ eqb-true (source w) (suc i) (and_left (eqb (source w) (suc i)) (eqb (target w) j) r.2) in
          let t : a.to ≡ j =
          sym (ap target a.same ∙ q.1) ∙ eqb-true (target w) j (and_right (eqb (source w) (suc i)) (eqb (target w) j) r.2) in
          sym (ap₂ A.follow s t) ∙ a.follows

  ends_same : (i : ℕ) → i ≤ A.letters → A.ends i ≡ ends_of (encode k A) i
  unfolding ends_of
  ends_same zero h = sym empty_same
  ends_same (suc i) h =
      let p = proper.labelled (suc i) (omega arith) h in
      let n = letters_same in
      sym
      (may_be_last (encode k A) (suc i) (omega arith) (omega arith)
      ∙ ap bit9 (letter_word_is (suc i) (omega arith) h)
      ∙ (letter_fields (A.label (suc i)) (A.follow 0 (suc i)) (A.ends (suc i)) (omega arith)).2)

  -- the form stands for the automaton
  pub view_encode : Agree A (view (encode k A))
  view_encode =
      record {
        letters = sym letters_same;
        label = λ j l h.
            let p = proper.labelled j l h in
            sym (ap byte0 (letter_word_is j l h) ∙ (letter_fields (A.label j) (A.follow 0 j) (A.ends j) (omega arith)).0);
        follow = follow_same;
        ends = ends_same;
      }

  pub encode_accepts : (w : List ℕ) → Accepts A w ↔ Accepts (view (encode k A)) w
  encode_accepts = agree_accepts k (alphabet_of (encode k A)) A (view (encode k A)) proper (view_proper (encode k A) encode_valid) view_encode

-- From a form to its automaton and back.
module _ (f : List ℕ) (valid : valid_form f ≡ true) where
  facts : Valid f
  facts = valid_at f valid

  parts : Parts f
  parts = valid_parts f valid

  few_letters : letters_of f ≤ 127
  few_letters = parts.head.letters_high

  letter_back : (j : ℕ) → 1 ≤ j → j ≤ letters_of f → letter_of (view f) j ≡ get_or f j 0
  letter_back j l h = ap₂ (letter_word (label_of f j)) (may_be_first f j l h) (may_be_last f j l h) ∙ sym (facts.letter j l h).same

  letters_back : map (letter_of (view f)) (numbers 1 (letters_of f)) ≡ letter_words f
  letters_back =
      ext_get_or 0 (map (letter_of (view f)) (numbers 1 (letters_of f))) (letter_words f)
      (count ∙ sym (length_letter_words f parts.long))
      (λ i l. at i (omega (arith, count)))
    where
      count : length (map (letter_of (view f)) (numbers 1 (letters_of f))) ≡ letters_of f
      count = length-map (numbers 1 (letters_of f)) (letter_of (view f)) ∙ length_numbers 1 (letters_of f)

      at : (i : ℕ) → i < letters_of f → get_or (map (letter_of (view f)) (numbers 1 (letters_of f))) i 0 ≡ get_or (letter_words f) i 0
      at i l =
          map_numbers_at (letter_of (view f)) 1 (letters_of f) i 0 l
          ∙ letter_back (1 + i) (omega arith) (omega arith)
          ∙ sym (get_or-take (letters_of f) (drop 1 f) i 0 l ∙ get_or-drop 1 f i 0)

  arcs_back : arcs_of (view f) ≡ arc_words f
  arcs_back = ascending_same (arcs_of (view f)) (arc_words f) (arcs_ascend (view f) few_letters) parts.order there back
    where
      there : (w : ℕ) → Among w (arcs_of (view f)) → Among w (arc_words f)
      there w m =
          let a = arcs_among (view f) w m in
          let p = follow_arc f a.from a.to a.from_low a.follows in
          let same : get_or f p.index 0 ≡ w = (facts.arc p.index p.past p.inside).same ∙ ap₂ arc_word p.from p.to ∙ sym a.same in
          subst (λ v. Among v (arc_words f)) same (arc_among f p.index p.past p.inside)

      back : (w : ℕ) → Among w (arc_words f) → Among w (arcs_of (view f))
      back w m =
          let a = each_among (Arc (letters_of f)) w (arc_words f) parts.arcs m in
          among_arcs (view f) w
          (record {
            from = source w;
            to = target w;
            from_low = a.source_low;
            from_high = a.source_high;
            to_low = a.target_low;
            to_high = a.target_high;
            follows = among_follow f w (source w) (target w) a.source_low refl refl m;
            same = a.same;
          })

  head_back : head_word (letters_of f) (ends_of f 0) (alphabet_of f) ≡ get_or f 0 0
  unfolding ends_of
  head_back = sym parts.head.same

  -- the form is determined by its automaton
  pub encode_view : encode (alphabet_of f) (view f) ≡ f
  unfolding encode
  encode_view =
      let long = parts.long in
      let next : 1 + letters_of f ≡ suc (letters_of f) = omega arith in
      ap₂ ◌∷◌ head_back
      (ap₂ ◌++◌ letters_back (arcs_back ∙ sym (drop-drop (letters_of f) 1 f ∙ ap (λ n. drop n f) next))
      ∙ take-append-drop (letters_of f) (drop 1 f))
      ∙ sym (drop-cons f 0 0 (omega arith))
