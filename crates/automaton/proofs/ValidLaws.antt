-- What holds of the words of a valid form, from the test for it; and its automaton is proper.
use Rattle.std.specs.Prelude.{ℕ, zero, suc, ◌+◌, ◌-◌, ◌<◌, ◌≤◌, ◌≡◌, refl, true, ◌&&◌, List, [], ◌∷◌, leb, ltb, eqb, length, get_or, drop}
use Rattle.std.proofs.Common.{sym, ap, subst, ◌∙◌, arith, length-drop, get_or-drop, get_or-take, length-take-le, leb-true, ltb-true, eqb-true, le-leb, lt-ltb, eq-eqb}
use Rattle.lists.proofs.RangeLaws.{range_inside, range_true}
use Rattle.lists.specs.Lists.{in_range, Among, Ascending}
use Rattle.lists.specs.Each.{all, Each}
use Rattle.lists.proofs.OrderLaws.{and_left, and_right, and_both, and_three, and_all_three}
use Rattle.lists.proofs.EachLaws.{all_each, each_all, each_at, each_map}
use Rattle.lists.proofs.AmongLaws.{any_among, among_any, among_at, among_index}
use Rattle.lists.proofs.AscendingLaws.{ascending_at}
use Rattle.automaton.specs.Proper.{Proper}
use Rattle.automaton.specs.Form.{bit8, bit9, source, target, is_head, is_letter, is_arc, before, ordered, valid_form, letters_of, alphabet_of, letter_words, arc_words, follow_of, ends_of, leads, view}
use Rattle.automaton.specs.WordsLaws.{Head, Letter, Arc, head_true, true_head, letter_true, true_letter, arc_true, true_arc, before_less}
use Rattle.automaton.specs.Valid.{Valid}

pub letter_at : (f : List ℕ) (i : ℕ) → 1 ≤ i → i ≤ letters_of f → get_or (letter_words f) (i - 1) 0 ≡ get_or f i 0
letter_at f i l h = get_or-take (letters_of f) (drop 1 f) (i - 1) 0 (omega arith) ∙ get_or-drop 1 f (i - 1) 0 ∙ ap (λ n. get_or f n 0) (omega arith)

arc_at : (f : List ℕ) (n : ℕ) → letters_of f < n → get_or (arc_words f) (n - suc (letters_of f)) 0 ≡ get_or f n 0
arc_at f n l = get_or-drop (suc (letters_of f)) f (n - suc (letters_of f)) 0 ∙ ap (λ m. get_or f m 0) (omega arith)

pub length_letter_words : (f : List ℕ) → letters_of f < length f → length (letter_words f) ≡ letters_of f
length_letter_words f h = length-take-le (letters_of f) (drop 1 f) (omega (arith, length-drop 1 f))

pub length_arc_words : (f : List ℕ) → length (arc_words f) ≡ length f - suc (letters_of f)
length_arc_words f = length-drop (suc (letters_of f)) f

-- arcs ascend exactly if neighbours are in order
pub ordered_ascending : (l : ℕ) (ws : List ℕ) → Each (Arc l) ws → ordered ws ≡ true → Ascending ws
unfolding ordered
ordered_ascending l [] arcs e = tt
ordered_ascending l (w ∷ []) arcs e = (tt, tt)
ordered_ascending l (w ∷ (v ∷ ws)) arcs e =
    let less : w < v = ltb-true w v (sym (before_less l w v arcs.0 arcs.1.0) ∙ and_left (before w v) (ordered (v ∷ ws)) e) in
    let rest : Ascending (v ∷ ws) = ordered_ascending l (v ∷ ws) arcs.1 (and_right (before w v) (ordered (v ∷ ws)) e) in
    ((less, each_map (λ y. v < y) (λ y. w < y) (λ y h. omega arith) ws rest.0), rest)

pub ascending_ordered : (l : ℕ) (ws : List ℕ) → Each (Arc l) ws → Ascending ws → ordered ws ≡ true
unfolding ordered
ascending_ordered l [] arcs h = refl
ascending_ordered l (w ∷ []) arcs h = refl
ascending_ordered l (w ∷ (v ∷ ws)) arcs h =
    and_both (before w v) (ordered (v ∷ ws)) (before_less l w v arcs.0 arcs.1.0 ∙ lt-ltb w v h.0.0) (ascending_ordered l (v ∷ ws) arcs.1 h.1)

-- what the five parts of the test show
pub record Parts (f : List ℕ) : Type 0 where
  pub head : Head (get_or f 0 0)
  pub long : letters_of f < length f
  pub letters : Each (Letter (alphabet_of f)) (letter_words f)
  pub arcs : Each (Arc (letters_of f)) (arc_words f)
  pub order : Ascending (arc_words f)

pub valid_parts : (f : List ℕ) → valid_form f ≡ true → Parts f
unfolding valid_form
valid_parts f e =
    let h = is_head (get_or f 0 0) in
    let n = ltb (letters_of f) (length f) in
    let ls = all (is_letter (alphabet_of f)) (letter_words f) in
    let cs = all (is_arc (letters_of f)) (arc_words f) in
    let p = and_three (h && n && ls) cs (ordered (arc_words f)) e in
    let q = and_three h n ls p.0 in
    let arcs : Each (Arc (letters_of f)) (arc_words f) = all_each (is_arc (letters_of f)) (Arc (letters_of f)) (arc_true (letters_of f)) (arc_words f) p.1 in
    record {
      head = head_true (get_or f 0 0) q.0;
      long = ltb-true (letters_of f) (length f) q.1;
      letters = all_each (is_letter (alphabet_of f)) (Letter (alphabet_of f)) (letter_true (alphabet_of f)) (letter_words f) q.2;
      arcs = arcs;
      order = ordered_ascending (letters_of f) (arc_words f) arcs p.2;
    }

pub parts_valid : (f : List ℕ) → Parts f → valid_form f ≡ true
unfolding valid_form
parts_valid f p =
    let h = is_head (get_or f 0 0) in
    let n = ltb (letters_of f) (length f) in
    let ls = all (is_letter (alphabet_of f)) (letter_words f) in
    let cs = all (is_arc (letters_of f)) (arc_words f) in
    and_all_three (h && n && ls) cs (ordered (arc_words f))
    (and_all_three h n ls
    (true_head (get_or f 0 0) p.head)
    (lt-ltb (letters_of f) (length f) p.long)
    (each_all (is_letter (alphabet_of f)) (Letter (alphabet_of f)) (true_letter (alphabet_of f)) (letter_words f) p.letters))
    (each_all (is_arc (letters_of f)) (Arc (letters_of f)) (true_arc (letters_of f)) (arc_words f) p.arcs)
    (ascending_ordered (letters_of f) (arc_words f) p.arcs p.order)

pub valid_at : (f : List ℕ) → valid_form f ≡ true → Valid f
valid_at f e =
    let p = valid_parts f e in
    let long = p.long in
    let l = letters_of f in
    record {
      head = p.head;
      long = p.long;
      letter = λ i low high.
          subst (Letter (alphabet_of f)) (letter_at f i low high)
          (each_at (Letter (alphabet_of f)) 0 (letter_words f) (i - 1) (omega (arith, length_letter_words f p.long)) p.letters);
      arc = λ n past inside.
          subst (Arc l) (arc_at f n past) (each_at (Arc l) 0 (arc_words f) (n - suc l) (omega (arith, length_arc_words f)) p.arcs);
      ascends = λ m n past less inside.
          let r = ascending_at 0 (arc_words f) (m - suc l) (n - suc l) p.order (omega arith) (omega (arith, length_arc_words f)) in
          omega (arith, arc_at f m past, arc_at f n (omega arith));
    }

-- the word at an index is the arc from i to j
pub record ArcAt (f : List ℕ) (i j : ℕ) : Type 0 where
  pub index : ℕ
  pub past : letters_of f < index
  pub inside : index < length f
  pub from : source (get_or f index 0) ≡ i
  pub to : target (get_or f index 0) ≡ j

pub follow_arc : (f : List ℕ) (i j : ℕ) → 1 ≤ i → follow_of f i j ≡ true → ArcAt f i j
unfolding follow_of
follow_arc f zero j l e = absurd (omega arith)
follow_arc f (suc i) j l e =
    let r = any_among (leads (suc i) j) (arc_words f) e in
    let q = among_index 0 r.0 (arc_words f) r.1 in
    let n : ℕ = q.0 in
    let h : n < length (arc_words f) = q.1 in
    let at : get_or f (suc (letters_of f) + n) 0 ≡ r.0 = sym (get_or-drop (suc (letters_of f)) f n 0) ∙ q.2 in
    record {
      index = suc (letters_of f) + n;
      past = omega arith;
      inside = omega (arith, length_arc_words f);
      from = ap source at ∙ eqb-true (source r.0) (suc i) (and_left (eqb (source r.0) (suc i)) (eqb (target r.0) j) r.2);
      to = ap target at ∙ eqb-true (target r.0) j (and_right (eqb (source r.0) (suc i)) (eqb (target r.0) j) r.2);
    }

pub arc_among : (f : List ℕ) (n : ℕ) → letters_of f < n → n < length f → Among (get_or f n 0) (arc_words f)
arc_among f n past inside =
    subst (λ v. Among v (arc_words f)) (arc_at f n past) (among_at 0 (arc_words f) (n - suc (letters_of f)) (omega (arith, length_arc_words f)))

pub among_follow : (f : List ℕ) (w i j : ℕ) → 1 ≤ i → source w ≡ i → target w ≡ j → Among w (arc_words f) → follow_of f i j ≡ true
unfolding follow_of
among_follow f w zero j l s t m = absurd (omega arith)
among_follow f w (suc i) j l s t m =
    among_any (leads (suc i) j) w (arc_words f) m
    (and_both (eqb (source w) (suc i)) (eqb (target w) j) (eq-eqb (source w) (suc i) s) (eq-eqb (target w) j t))

pub arc_follow : (f : List ℕ) (i j : ℕ) → 1 ≤ i → ArcAt f i j → follow_of f i j ≡ true
arc_follow f i j l a = among_follow f (get_or f a.index 0) i j l a.from a.to (arc_among f a.index a.past a.inside)

-- a letter's bits
pub may_be_first : (f : List ℕ) (j : ℕ) → 1 ≤ j → j ≤ letters_of f → follow_of f 0 j ≡ bit8 (get_or f j 0)
unfolding follow_of
may_be_first f j l h = ap (λ t. t && bit8 (get_or f j 0)) (range_inside 1 (letters_of f) j l h)

pub may_be_last : (f : List ℕ) (i : ℕ) → 1 ≤ i → i ≤ letters_of f → ends_of f i ≡ bit9 (get_or f i 0)
unfolding ends_of
may_be_last f zero l h = absurd (omega arith)
may_be_last f (suc i) l h = ap (λ t. t && bit9 (get_or f (suc i) 0)) (le-leb (suc i) (letters_of f) h)

pub accepts_empty : (f : List ℕ) → ends_of f 0 ≡ bit8 (get_or f 0 0)
unfolding ends_of
accepts_empty f = refl

-- a first letter is a letter, and a word ends after a letter or 0
pub first_letter : (f : List ℕ) (j : ℕ) → follow_of f 0 j ≡ true → (1 ≤ j) × (j ≤ letters_of f)
unfolding follow_of
first_letter f j h = range_true 1 (letters_of f) j (and_left (in_range 1 (letters_of f) j) (bit8 (get_or f j 0)) h)

pub ends_letter : (f : List ℕ) (i : ℕ) → ends_of f i ≡ true → i ≤ letters_of f
unfolding ends_of
ends_letter f zero h = omega arith
ends_letter f (suc i) h = leb-true (suc i) (letters_of f) (and_left (leb (suc i) (letters_of f)) (bit9 (get_or f (suc i) 0)) h)

module _ (f : List ℕ) (valid : Valid f) where
  pub follow_source : (i j : ℕ) → follow_of f i j ≡ true → i ≤ letters_of f
  follow_source zero j h = omega arith
  follow_source (suc i) j h =
      let a = follow_arc f (suc i) j (omega arith) h in
      let w = valid.arc a.index a.past a.inside in
      let s = a.from in
      omega arith

  pub follow_target : (i j : ℕ) → follow_of f i j ≡ true → (1 ≤ j) × (j ≤ letters_of f)
  follow_target zero j h = first_letter f j h
  follow_target (suc i) j h =
      let a = follow_arc f (suc i) j (omega arith) h in
      let w = valid.arc a.index a.past a.inside in
      let t = a.to in
      (omega arith, omega arith)

  -- the automaton of a valid form is proper
  pub valid_proper : Proper (alphabet_of f) (view f)
  valid_proper = record { target = follow_target; labelled = λ j low high. let l = valid.letter j low high in (l.low, l.high) }

pub view_proper : (f : List ℕ) → valid_form f ≡ true → Proper (alphabet_of f) (view f)
view_proper f e = valid_proper f (valid_at f e)
