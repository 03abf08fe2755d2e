-- Laws of a text from a place on: its first byte, where a sign first occurs in it, and the place where it begins.
use Rattle.std.specs.Prelude.{◌≡◌, refl, List, [], ◌∷◌, ◌++◌, Bool, true, false, cond, length, get_or, drop, take, eqb}
use Rattle.std.proofs.Common.{sym, ap, ◌∙◌, lt_of_not-le, add-one, length-drop, length-append, drop-drop, take_all}
use Rattle.std.proofs.Math.Option.{Option, some, none}
use Prim.Native.Nat.{ℕ, zero, suc, ◌+◌, ◌-◌, ◌≤◌, ◌<◌}
use Prim.Native.Char.{Char, code}
use native.Mathlib.Omega.{arith}
use Rattle.std.proofs.Math.ListN.{get_or-eq_default}
use borrow.Author.Tests.{eq-eqb, ne_eqb}
use Rattle.std.proofs.Math.Seq.{drop-append_seam}
use Rattle.lists.proofs.EachLaws.{drop_here, drop_all}
use Rattle.text.specs.Text.{next, next_of, one_of, rest, in_front, split}
use Rattle.text.specs.Places.{until, place}

module _ (c : ℕ) (text : List ℕ) (i : ℕ) where
  pub until_here : i < length text → get_or text i 0 ≡ c → i + until c (drop i text) ≡ i
  unfolding until
  until_here l e = let h : until c (drop i text) ≡ 0 = rw (drop_here 0 text i l, until, eq-eqb (get_or text i 0) c e) in omega arith

  pub until_past : i < length text → (get_or text i 0 ≡ c → ⊥) → i + until c (drop i text) ≡ i + 1 + until c (drop (i + 1) text)
  unfolding until
  until_past l e =
      let h : until c (drop i text) ≡ suc (until c (drop (i + 1) text)) = rw (drop_here 0 text i l, until, ne_eqb (get_or text i 0) c e) in
      omega arith

  pub until_end : length text ≤ i → i + until c (drop i text) ≡ i
  unfolding until
  until_end l = let h : until c (drop i text) ≡ 0 = rw (drop_all text i l, until) in omega arith

-- one of the signs from index i on
module _ (signs : List ℕ) (b i : ℕ) where
  pub one_here : i < length signs → b ≡ get_or signs i 0 → one_of (drop i signs) b ≡ true
  one_here l e = rw (drop_here 0 signs i l, eq-eqb b (get_or signs i 0) e)

  pub one_past : i < length signs → (b ≡ get_or signs i 0 → ⊥) → one_of (drop i signs) b ≡ one_of (drop (i + 1) signs) b
  one_past l e = rw (drop_here 0 signs i l, ne_eqb b (get_or signs i 0) e)

  pub one_end : length signs ≤ i → one_of (drop i signs) b ≡ false
  one_end l = rw (drop_all signs i l)

pub until_past_end : (c : ℕ) (text : List ℕ) (i : ℕ) → length text ≤ i → until c (drop i text) ≡ 0
unfolding until
until_past_end c text i l = rw (drop_all text i l, until)

pub until_within : (c : ℕ) (s : List ℕ) → until c s ≤ length s
unfolding until
until_within c [] = omega arith
until_within c (b ∷ s) = by (eqb b c) (until_within c s)
  where
    by : (t : Bool) → until c s ≤ length s → cond t 0 (suc (until c s)) ≤ suc (length s)
    by true e = omega arith
    by false e = omega arith

-- by the first byte
pub until_nil : (c : ℕ) → until c [] ≡ 0
unfolding until
until_nil c = refl

pub until_hit : (c b : ℕ) (s : List ℕ) → b ≡ c → until c (b ∷ s) ≡ 0
unfolding until
until_hit c b s e = rw (until, eq-eqb b c e)

pub until_miss : (c b : ℕ) (s : List ℕ) → (b ≡ c → ⊥) → until c (b ∷ s) ≡ until c s + 1
unfolding until
until_miss c b s e = let h : until c (b ∷ s) ≡ suc (until c s) = rw (until, ne_eqb b c e) in omega arith

-- the text before the first such sign, and after it
split_some :
    (c : Char) (s : List ℕ) → until (code c) s < length s → split c s ≡ some (take (until (code c) s) s, drop (suc (until (code c) s)) s)
unfolding until split
split_some c [] l = absurd (omega arith)
split_some c (b ∷ s) l = by (eqb b (code c)) l (split_some c s)
  where
    by :
        (t : Bool) → cond t 0 (suc (until (code c) s)) < suc (length s) →
        (until (code c) s < length s → split c s ≡ some (take (until (code c) s) s, drop (suc (until (code c) s)) s)) →
        ◌≡◌ {A = Option (List ℕ × List ℕ)} (elim t [ true ↦ some ([], s) | false ↦ in_front b (split c s) ])
        (some (take (cond t 0 (suc (until (code c) s))) (b ∷ s), drop (cond t 0 (suc (until (code c) s))) s))
    by true l ih = refl
    by false l ih = ap (in_front b) (ih (omega arith))

split_none : (c : Char) (s : List ℕ) → length s ≤ until (code c) s → split c s ≡ none
unfolding until split
split_none c [] l = refl
split_none c (b ∷ s) l = by (eqb b (code c)) l (split_none c s)
  where
    by :
        (t : Bool) → suc (length s) ≤ cond t 0 (suc (until (code c) s)) → (length s ≤ until (code c) s → split c s ≡ none) →
        ◌≡◌ {A = Option (List ℕ × List ℕ)} (elim t [ true ↦ some ([], s) | false ↦ in_front b (split c s) ]) none
    by true l ih = absurd (omega arith)
    by false l ih = ap (in_front b) (ih (omega arith))

-- the same from a place on: the first such sign is at e
module _ (c : Char) (text : List ℕ) (at e : ℕ) (is : e ≡ at + until (code c) (drop at text)) where
  pub split_found : e < length text → split c (drop at text) ≡ some (take (e - at) (drop at text), drop (e + 1) text)
  split_found l =
      let n = length-drop at text in
      let k : until (code c) (drop at text) ≡ e - at = omega arith in
      let d : at + suc (until (code c) (drop at text)) ≡ e + 1 = omega arith in
      let q : drop (suc (until (code c) (drop at text))) (drop at text) ≡ drop (e + 1) text = drop-drop _ at text ∙ ap (λ (i : ℕ). drop i text) d in
      split_some c (drop at text) (omega arith) ∙ rw (q, k)

  pub split_missing : at ≤ length text → length text ≤ e → split c (drop at text) ≡ none
  split_missing h l = let n = length-drop at text in split_none c (drop at text) (omega arith)

-- a byte other than 0 is inside the text
pub byte_within : (text : List ℕ) (i : ℕ) → (get_or text i 0 ≡ 0 → ⊥) → i < length text
byte_within text i f = lt_of_not-le (λ h. f (get_or-eq_default text 0 h))

pub byte_is : (text : List ℕ) (i b : ℕ) → get_or text i 0 ≡ suc b → i < length text
byte_is text i b e = byte_within text i (λ z. omega arith)

-- the first byte, where 0 is no sign, and the rest after it
pub next_at : (c : Char) (text : List ℕ) (at : ℕ) → eqb 0 (code c) ≡ false → next c (drop at text) ≡ eqb (get_or text at 0) (code c)
next_at c [] zero e = sym e
next_at c [] (suc n) e = sym e
next_at c (b ∷ s) zero e = refl
next_at c (b ∷ s) (suc n) e = next_at c s n e

pub next_of_at : (cs text : List ℕ) (at : ℕ) → one_of cs 0 ≡ false → next_of cs (drop at text) ≡ one_of cs (get_or text at 0)
next_of_at cs [] zero e = sym e
next_of_at cs [] (suc n) e = sym e
next_of_at cs (b ∷ s) zero e = refl
next_of_at cs (b ∷ s) (suc n) e = next_of_at cs s n e

pub rest_at : (text : List ℕ) (at : ℕ) → rest (drop at text) ≡ drop (at + 1) text
rest_at text at = by text at ∙ ap (λ (i : ℕ). drop i text) (sym (add-one at))
  where
    by : (s : List ℕ) (n : ℕ) → rest (drop n s) ≡ drop (suc n) s
    by [] zero = refl
    by [] (suc n) = refl
    by (b ∷ s) zero = refl
    by (b ∷ s) (suc n) = by s n

pub place_drop : (text : List ℕ) (e : ℕ) → e ≤ length text → place text (drop e text) ≡ e
place_drop text e l = let n = length-drop e text in omega arith

-- r is the rest after u, which begins at a place
pub record Beyond (text : List ℕ) (at : ℕ) (u r : List ℕ) : Type 0 where
  pub rests : drop (place text r) text ≡ r
  pub ahead : place text r ≡ at + length u
  pub ends : place text r ≤ length text

pub beyond : (text : List ℕ) (at : ℕ) (u r : List ℕ) → at ≤ length text → drop at text ≡ u ++ r → Beyond text at u r
beyond text at u r l e =
    let n : length text - at ≡ length u + length r = sym (length-drop at text) ∙ ap length e ∙ length-append u r in
    let p : place text r ≡ at + length u = omega arith in
    record {
      rests = ap (λ (i : ℕ). drop i text) p ∙ sym (drop-drop (length u) at text) ∙ ap (drop (length u)) e ∙ drop-append_seam u r;
      ahead = p;
      ends = omega arith;
    }

-- a part up to the end of the text is the text from the part's start on
pub part_rest : (text : List ℕ) (i : ℕ) → take (length text - i) (drop i text) ≡ drop i text
part_rest text i = let n = length-drop i text in take_all (length text - i) (drop i text) (omega arith)
