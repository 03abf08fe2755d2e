-- The repetition at a place of a text: its sign or its braces, one `?` after it, and its end.
use Rattle.std.specs.Prelude.{◌≡◌, List, [], Bool, cond, ◌⊎◌, ℕ, ◌+◌, ◌-◌, ◌≤◌, ◌<◌, get_or, take}
use Rattle.std.proofs.Math.Path.{refl, sym, ap, ap₂}
use Rattle.std.proofs.Common.{◌∙◌, inl, inr, arith}
use Rattle.std.proofs.Math.Option.{Option, some, none}
use Rattle.std.proofs.Math.Bool.{true, false}
use Prim.Native.Char.{code}
use Rattle.std.proofs.Math.ListN.{length, drop}
use Rattle.std.proofs.Math.Dec.{eqb}
use borrow.Author.Tests.{eqb-true, eq-eqb, ne_eqb}
use Rattle.lists.proofs.EachLaws.{drop_here, drop_all}
use Rattle.lists.proofs.OrderLaws.{lt_or_le}
use Rattle.refusal.specs.declared.Refusal.{Refusal}
use Rattle.refusal.specs.declared.Refusal.TheVariants as refusal
use Rattle.regex_tree.specs.Tree.{Count, between, onward}
use Rattle.regex_tree.specs.Parsing.{Parsing, found, fault, then, enclosed}
use Rattle.text.specs.Text.{next, rest, split}
use Rattle.text.specs.Places.{until, place}
use Rattle.lists.specs.Cases.{first_of}
use Rattle.regex_tree.specs.Repetition.{counts, sign, repetition}
use Rattle.regex_tree.proofs.SaysLaws.{Says, first_says, enclosed_says}
use Rattle.text.proofs.TextLaws.{split_found, split_missing, byte_within, next_at, rest_at, place_drop}
use Rattle.std.specs.Prelude.{Some, None, Result, Ok, Err}
use Rattle.regex_repetition.specs.declared.Repeats.{Repeats}
use Rattle.regex_repetition.specs.Answers.{several, times, repeats_of, counted, braced, modified}
use Rattle.lists.proofs.CasesLaws.{fourth}

module _ (text : List ℕ) (at e : ℕ) (is : e ≡ at + 1 + until (code "}") (drop (at + 1) text)) (l : at < length text) where
  pub braces_unclosed : length text ≤ e → Err refusal.Count ≡ braced text at
  unfolding braced enclosed
  braces_unclosed h = rw (braced, split_missing "}" text (at + 1) e is (omega arith) h)

  pub braces_closed : e < length text → counted (counts (take (e - (at + 1)) (drop (at + 1) text))) (e + 1) ≡ braced text at
  unfolding braced enclosed
  braces_closed h = rw (braced, split_found "}" text (at + 1) e is h) (by (counts (take (e - (at + 1)) (drop (at + 1) text))))
    where
      by :
          (x : Option Count) →
          counted x (e + 1) ≡ repeats_of text (elim x as (λ _. Parsing Count) [ none ↦ fault refusal.Count (drop at text) | some c ↦ found c (drop (e + 1) text) ])
      by none = refl
      by (some c) = ap (times c) (sym (place_drop text (e + 1) (omega arith)))

otherwise : {R : Type 0} (t : Bool) (a d : R) → t ≡ false → cond t a d ≡ d
otherwise t a d e = rw e

-- The sign at a place, by its first byte.
module _ (text : List ℕ) (at : ℕ) where
  one_byte : (c : Count) → at < length text → times c (at + 1) ≡ times c (place text (drop (at + 1) text))
  one_byte c l = ap (times c) (sym (place_drop text (at + 1) (omega arith)))

  module _ (l : at < length text) where
    pub sign_star : get_or text at 0 ≡ code "*" → Ok (several 0 None (at + 1)) ≡ repeats_of text (sign (drop at text))
    unfolding sign first_of
    sign_star e = one_byte (onward 0) l ∙ rw (drop_here 0 text at l, e)

    pub sign_plus : get_or text at 0 ≡ code "+" → Ok (several 1 None (at + 1)) ≡ repeats_of text (sign (drop at text))
    unfolding sign first_of
    sign_plus e = one_byte (onward 1) l ∙ rw (drop_here 0 text at l, e)

    pub sign_optional : get_or text at 0 ≡ code "?" → Ok (several 0 (Some 1) (at + 1)) ≡ repeats_of text (sign (drop at text))
    unfolding sign first_of
    sign_optional e = one_byte (between 0 1) l ∙ rw (drop_here 0 text at l, e)

    pub sign_braces : get_or text at 0 ≡ code "{" → braced text at ≡ repeats_of text (sign (drop at text))
    unfolding sign first_of braced
    sign_braces e = rw (drop_here 0 text at l, e)

  pub sign_none :
      (get_or text at 0 ≡ code "*" → ⊥) → (get_or text at 0 ≡ code "+" → ⊥) → (get_or text at 0 ≡ code "?" → ⊥) → (get_or text at 0 ≡ code "{" → ⊥) →
      Err refusal.MisplacedSign ≡ repeats_of text (sign (drop at text))
  unfolding sign
  sign_none a b c d = by (lt_or_le at (length text))
    where
      by : (at < length text) ⊎ (length text ≤ at) → Err refusal.MisplacedSign ≡ repeats_of text (sign (drop at text))
      by (inl l) = sym (ap (repeats_of text)
          (ap sign (drop_here 0 text at l)
          ∙ fourth (eqb (get_or text at 0) (code "*")) (eqb (get_or text at 0) (code "+")) (eqb (get_or text at 0) (code "?")) (eqb (get_or text at 0) (code "{")) _ _ _ _ _
          (ne_eqb (get_or text at 0) (code "*") a) (ne_eqb (get_or text at 0) (code "+") b) (ne_eqb (get_or text at 0) (code "?") c)
          ∙ otherwise (eqb (get_or text at 0) (code "{")) _ _ (ne_eqb (get_or text at 0) (code "{") d)))
      by (inr l) = rw (drop_all text at l, sign)

pub modified_is : (text : List ℕ) (at : ℕ) → get_or text at 0 ≡ code "?" → at + 1 ≡ modified text at
unfolding modified
modified_is text at e = rw (eq-eqb (get_or text at 0) (code "?") e)

pub modified_not : (text : List ℕ) (at : ℕ) → (get_or text at 0 ≡ code "?" → ⊥) → at ≡ modified text at
unfolding modified
modified_not text at e = rw (ne_eqb (get_or text at 0) (code "?") e)

-- the rest after a sign is the text from its end on
abbrev Rest : List ℕ → Count → List ℕ → Type 0
Rest text c r = drop (place text r) text ≡ r

rest_drop : (text : List ℕ) (c : Count) (k : ℕ) → k ≤ length text → Rest text c (drop k text)
rest_drop text c k l = ap (λ i. drop i text) (place_drop text k l)

abbrev second : Option (List ℕ × List ℕ) → List ℕ
second none = []
second (some x) = x.1

rest_braces : (text : List ℕ) (at : ℕ) → at ≤ length text → (x : List ℕ × List ℕ) (c : Count) → split "}" (drop at text) ≡ some x → Rest text c x.1
rest_braces text at l x c e = by (lt_or_le (at + until (code "}") (drop at text)) (length text))
  where
    by : (at + until (code "}") (drop at text) < length text) ⊎ (length text ≤ at + until (code "}") (drop at text)) → Rest text c x.1
    by (inl h) =
        let k : ℕ = at + until (code "}") (drop at text) + 1 in
        let q : x.1 ≡ drop k text = ap second (sym e ∙ split_found "}" text at _ refl h) in
        rw q (rest_drop text c k (omega arith))
    by (inr h) = let q = split_missing "}" text at _ refl l h in let z : ◌≡◌ {A = ℕ} 0 1 = cc in absurd (omega arith)

sign_rest : (text : List ℕ) (at : ℕ) → Says (Rest text) (λ n r. Unit {0}) (sign (drop at text))
unfolding sign first_of
sign_rest text at = by (lt_or_le at (length text))
  where
    by : (at < length text) ⊎ (length text ≤ at) → Says (Rest text) (λ n r. Unit {0}) (sign (drop at text))
    by (inl l) =
        let here : (c : Count) → Rest text c (drop (at + 1) text) = λ c. rest_drop text c (at + 1) (omega arith) in
        rw (drop_here 0 text at l)
        (first_says (Rest text) _ (eqb (get_or text at 0) (code "*")) _ _ _ (λ _. here (onward 0))
        (λ _. first_says (Rest text) _ (eqb (get_or text at 0) (code "+")) _ _ _ (λ _. here (onward 1))
        (λ _. first_says (Rest text) _ (eqb (get_or text at 0) (code "?")) _ _ _ (λ _. here (between 0 1))
        (λ _. first_says (Rest text) _ (eqb (get_or text at 0) (code "{")) _ _ _
        (λ _. enclosed_says (Rest text) _ refusal.Count _ counts (split "}" (drop (at + 1) text)) tt (λ x c e q. rest_braces text (at + 1) (omega arith) x c e))
        (λ _. tt)))))
    by (inr l) = rw (drop_all text at l, sign) tt

repeats_in : Result Repeats Refusal → Repeats
repeats_in (Ok r) = r
repeats_in (Err n) = several 0 None 0

times_same : (c d : Count) (e k : ℕ) → times c e ≡ times d k → (c ≡ d) × (e ≡ k)
unfolding repeats_in
times_same c d e k h = by c d (ap (λ x. (repeats_in x).least) h) (ap (λ x. (repeats_in x).most) h) (ap (λ x. (repeats_in x).end) h)
  where
    by :
        (c d : Count) → (repeats_in (times c e)).least ≡ (repeats_in (times d k)).least →
        (repeats_in (times c e)).most ≡ (repeats_in (times d k)).most → (repeats_in (times c e)).end ≡ (repeats_in (times d k)).end →
        (c ≡ d) × (e ≡ k)
    by (between n m) (between i j) p q r = (cc, r)
    by (between n m) (onward i) p q r = absurd (cc)
    by (onward n) (between i j) p q r = absurd (cc)
    by (onward n) (onward i) p q r = (cc, r)

times_refused : (c : Count) (e : ℕ) (n : Refusal) → times c e ≡ Err n → ⊥
times_refused (between n m) e k h = let z : ◌≡◌ {A = ℕ} 0 1 = cc in omega arith
times_refused (onward n) e k h = let z : ◌≡◌ {A = ℕ} 0 1 = cc in omega arith

module _ (text : List ℕ) (at : ℕ) where
  -- what a sign gives, with a `?` after it or without
  abbrev modifier : Bool → Count → List ℕ → Parsing Count
  modifier t c r = elim t [ true ↦ found c (rest r) | false ↦ found c r ]

  after_modifier :
      (c : Count) (r : List ℕ) → drop (place text r) text ≡ r →
      times c (modified text (place text r)) ≡ repeats_of text (modifier (next "?" r) c r)
  unfolding modified
  after_modifier c r q =
      let n : next "?" r ≡ eqb (get_or text (place text r) 0) (code "?") = ap (next "?") (sym q) ∙ next_at "?" text (place text r) refl in
      by (eqb (get_or text (place text r) 0) (code "?")) refl ∙ ap (λ t. repeats_of text (modifier t c r)) (sym n)
    where
      by : (t : Bool) → eqb (get_or text (place text r) 0) (code "?") ≡ t → times c (cond t (place text r + 1) (place text r)) ≡ repeats_of text (modifier t c r)
      by true e =
          let b = eqb-true (get_or text (place text r) 0) (code "?") e in
          let l = byte_within text (place text r) (λ z. omega arith) in
          let k : rest r ≡ drop (place text r + 1) text = ap rest (sym q) ∙ rest_at text (place text r) in
          ap (times c) (sym (ap (place text) k ∙ place_drop text (place text r + 1) (omega arith)))
      by false e = refl

  pub repetition_refused :
      (n : Refusal) → Err n ≡ repeats_of text (sign (drop at text)) → Err n ≡ repeats_of text (repetition (drop at text))
  unfolding repetition then
  repetition_refused n h = by (sign (drop at text)) h
    where
      by : (x : Parsing Count) → Err n ≡ repeats_of text x → Err n ≡ repeats_of text (then x (λ c r. modifier (next "?" r) c r))
      by (found c r) h = absurd (times_refused c (place text r) n (sym h))
      by (fault m r) h = h

  pub repetition_is :
      (c : Count) (e : ℕ) → times c e ≡ repeats_of text (sign (drop at text)) → times c (modified text e) ≡ repeats_of text (repetition (drop at text))
  unfolding repetition then
  repetition_is c e h = by (sign (drop at text)) (sign_rest text at) h
    where
      by :
          (x : Parsing Count) → Says (Rest text) (λ n r. Unit {0}) x → times c e ≡ repeats_of text x →
          times c (modified text e) ≡ repeats_of text (then x (λ c r. modifier (next "?" r) c r))
      by (found d r) s h =
          let q = times_same c d e (place text r) h in
          ap₂ (λ i j. times i (modified text j)) q.0 q.1 ∙ after_modifier d r s
      by (fault n r) s h = absurd (times_refused c e n h)

  pub repetition_found :
      (d : Repeats) → Ok d ≡ repeats_of text (sign (drop at text)) →
      Ok (several d.least d.most (modified text d.end)) ≡ repeats_of text (repetition (drop at text))
  unfolding repetition then repeats_in
  repetition_found d h = by (sign (drop at text)) (sign_rest text at) h
    where
      by :
          (x : Parsing Count) → Says (Rest text) (λ n r. Unit {0}) x → Ok d ≡ repeats_of text x →
          Ok (several d.least d.most (modified text d.end)) ≡ repeats_of text (then x (λ c r. modifier (next "?" r) c r))
      by (found (between n m) r) s h =
          let e : d ≡ several n (Some m) (place text r) = ap repeats_in h in
          ap (λ d. Ok (several d.least d.most (modified text d.end))) e ∙ after_modifier (between n m) r s
      by (found (onward n) r) s h =
          let e : d ≡ several n None (place text r) = ap repeats_in h in
          ap (λ d. Ok (several d.least d.most (modified text d.end))) e ∙ after_modifier (onward n) r s
      by (fault n r) s h = absurd (cc)
