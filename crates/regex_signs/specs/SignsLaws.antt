-- Laws of the sign at the front of a text, or at a place of it: the signs of a bracket are this sign, and the signs of the text after it.
use Rattle.std.proofs.Math.Path.{◌≡◌, refl, sym}
use Rattle.std.proofs.Common.{ap, ◌∙◌, inl, inr, append-nil, append_assoc, length-drop, drop-drop, eqb-true, eq-eqb, ne_eqb}
use Rattle.std.specs.Prelude.{◌⊎◌, List, [], ◌∷◌, ◌++◌, Bool, cond, not, ◌&&◌, ℕ, suc, ◌+◌, ◌-◌, ◌≤◌, ◌<◌, get_or, drop, take, eqb}
use Rattle.std.proofs.Math.Option.{Option, some, none}
use Rattle.std.proofs.Math.Bool.{true, false, and-false}
use Prim.Native.Char.{code}
use native.Mathlib.Omega.{arith}
use Rattle.std.proofs.Math.ListN.{length}
use Rattle.std.proofs.Math.Seq.{get_or-drop}
use Rattle.lists.proofs.EachLaws.{drop_here, drop_all}
use Rattle.lists.proofs.OrderLaws.{and_right, lt_or_le, not_both}
use Rattle.lists.specs.Options.{is_some}
use Rattle.text.specs.Text.{in_front}
use Rattle.text.proofs.TextLaws.{byte_is}
use Rattle.regex_tree.specs.Sets.{Sign, byte, class, class_begins, class_ends, closes, closed, naming}
use Rattle.regex_tree.proofs.FirstBytesLaws.{closed_here, closed_class, closed_byte, closed_last, naming_here, naming_more}
use Rattle.regex_signs.specs.Signs.{name, opens, sign, sign_width, signs}

name_short : (s : List ℕ) → length (name s) ≤ length s
unfolding name
name_short [] = omega arith
name_short (b ∷ []) = omega arith
name_short (b ∷ (c ∷ s)) = by (class_ends b c) (name_short (c ∷ s))
  where
    by : (t : Bool) → length (name (c ∷ s)) ≤ length (c ∷ s) → length (cond t [] (b ∷ name (c ∷ s))) ≤ length (b ∷ (c ∷ s))
    by true h = omega arith
    by false h = omega arith

pub name_taken : (s : List ℕ) → take (length (name s)) s ≡ name s
unfolding name
name_taken [] = refl
name_taken (b ∷ []) = refl
name_taken (b ∷ (c ∷ s)) = by (class_ends b c) (name_taken (c ∷ s))
  where
    by :
        (t : Bool) → take (length (name (c ∷ s))) (c ∷ s) ≡ name (c ∷ s) →
        take (length (cond t [] (b ∷ name (c ∷ s)))) (b ∷ (c ∷ s)) ≡ cond t [] (b ∷ name (c ∷ s))
    by true h = refl
    by false h = ap (λ (l : List ℕ). b ∷ l) h

-- by its first byte, with the byte after it, or 0
name_first :
    (b : ℕ) (s : List ℕ) → name (b ∷ s) ≡ cond (class_ends b (get_or s 0 0)) [] (b ∷ name s)
unfolding name
name_first b [] = by (eqb b (code ":"))
  where
    by : (t : Bool) → b ∷ [] ≡ cond (t && false) [] (b ∷ [])
    by t = rw (and-false t)
name_first b (c ∷ s) = refl

module _ (text : List ℕ) (i : ℕ) where
  abbrev ended : Bool
  ended = class_ends (get_or text i 0) (get_or text (i + 1) 0)

  name_at : i < length text → name (drop i text) ≡ cond ended [] (get_or text i 0 ∷ name (drop (i + 1) text))
  name_at l =
      let e : get_or (drop (i + 1) text) 0 0 ≡ get_or text (i + 1) 0 = get_or-drop (i + 1) text 0 0 ∙ ap (λ k. get_or text k 0) (omega arith) in
      ap name (drop_here 0 text i l) ∙ name_first (get_or text i 0) (drop (i + 1) text) ∙ rw e

  pub name_here : i < length text → ended ≡ true → i + length (name (drop i text)) ≡ i
  name_here l e = let h : length (name (drop i text)) ≡ 0 = ap length (name_at l) ∙ by ended e in omega arith
    where
      by : (t : Bool) → t ≡ true → length (cond t [] (get_or text i 0 ∷ name (drop (i + 1) text))) ≡ 0
      by t e = rw e

  pub name_past : i < length text → ended ≡ false → i + length (name (drop i text)) ≡ i + 1 + length (name (drop (i + 1) text))
  name_past l e =
      let h : length (name (drop i text)) ≡ suc (length (name (drop (i + 1) text))) = ap length (name_at l) ∙ by ended e in omega arith
    where
      by :
          (t : Bool) → t ≡ false →
          length (cond t [] (get_or text i 0 ∷ name (drop (i + 1) text))) ≡ suc (length (name (drop (i + 1) text)))
      by t e = rw e

  pub name_end : length text ≤ i → i + length (name (drop i text)) ≡ i
  unfolding name
  name_end l = let h : length (name (drop i text)) ≡ 0 = rw (drop_all text i l, name) in omega arith

-- The signs of a bracket, one at a time.

naming_step : (n s : List ℕ) → naming n s ≡ in_front (class (n ++ name s)) (closed false (drop (length (name s) + 2) s))
unfolding closed name
naming_step n [] = refl
naming_step n (b ∷ []) = refl
naming_step n (b ∷ (c ∷ s)) = by (class_ends b c) refl (naming_step (n ++ (b ∷ [])) (c ∷ s))
  where
    by :
        (t : Bool) → class_ends b c ≡ t →
        naming (n ++ (b ∷ [])) (c ∷ s) ≡ in_front (class ((n ++ (b ∷ [])) ++ name (c ∷ s))) (closed false (drop (length (name (c ∷ s)) + 2) (c ∷ s))) →
        naming n (b ∷ (c ∷ s))
        ≡ in_front (class (n ++ cond t [] (b ∷ name (c ∷ s))))
        (closed false (drop (length (cond t [] (b ∷ name (c ∷ s))) + 2) (b ∷ (c ∷ s))))
    by true e h = naming_here n b c s e ∙ rw (append-nil n)
    by false e h =
        naming_more n b c s e ∙ h
        ∙ ap (λ (m : List ℕ). in_front (class m) (closed false (drop (length (name (c ∷ s)) + 2) (c ∷ s)))) (append_assoc n (b ∷ []) (name (c ∷ s)))
        ∙ ap (λ (k : ℕ). in_front (class (n ++ (b ∷ name (c ∷ s)))) (closed false (drop k (b ∷ (c ∷ s))))) more
      where
        more : suc (length (name (c ∷ s)) + 2) ≡ length (b ∷ name (c ∷ s)) + 2
        more = omega arith

-- The signs of a text that does not begin with the closing `]`: the first, and those of the text after it.
pub closed_step : (first : Bool) (s : List ℕ) → closes first (get_or s 0 0) ≡ false → closed first s ≡ in_front (sign s) (closed false (drop (sign_width s) s))
unfolding closed opens
closed_step first [] e = refl
closed_step first (b ∷ []) e = closed_last first b e ∙ by (eqb b (code "["))
  where
    by :
        (t : Bool) →
        none ≡ in_front (cond (t && false) (class (name [])) (byte b)) (closed false (drop (cond (t && false) (2 + (length (name []) + 2)) 1) (b ∷ [])))
    by t = rw (and-false t)
closed_step first (b ∷ (c ∷ s)) e = by (class_begins b c) refl
  where
    by :
        (t : Bool) → class_begins b c ≡ t →
        closed first (b ∷ (c ∷ s))
        ≡ in_front (cond t (class (name s)) (byte b)) (closed false (drop (cond t (2 + (length (name s) + 2)) 1) (b ∷ (c ∷ s))))
    by true k =
        closed_class first b c s e k ∙ naming_step [] s
        ∙ ap (λ (r : List ℕ). in_front (class (name s)) (closed false r)) (drop-drop (length (name s) + 2) 2 (b ∷ (c ∷ s)))
    by false k = closed_byte first b c s e k

front_some :
    (g : Sign) (y : Option (List Sign × List ℕ)) → is_some (in_front g y) ≡ true → (signs (in_front g y) ≡ g ∷ signs y) × (is_some y ≡ true)
front_some g none e = let z : ◌≡◌ {A = ℕ} 0 1 = cc in absurd (omega arith)
front_some g (some x) e = (refl, refl)

-- the second byte of `[:`
pub opens_byte : (s : List ℕ) → opens s ≡ true → get_or s 1 0 ≡ code ":"
unfolding opens
opens_byte s o = eqb-true (get_or s 1 0) (code ":") (and_right (eqb (get_or s 0 0) (code "[")) (eqb (get_or s 1 0) (code ":")) o)

-- the closing `]` by place
pub closes_first : (at first b : ℕ) → at ≡ first → false ≡ closes (eqb at first) b
closes_first at first b e = rw (eq-eqb at first e)

pub closes_by : (at first b : ℕ) → (at ≡ first → ⊥) → eqb b (code "]") ≡ closes (eqb at first) b
closes_by at first b e = rw (ne_eqb at first e)

-- At a place of a text.
module _ (text : List ℕ) (at : ℕ) where
  pub first_at : get_or (drop at text) 0 0 ≡ get_or text at 0
  first_at = get_or-drop at text 0 0 ∙ ap (λ k. get_or text k 0) (omega arith)

  pub opens_at : opens (drop at text) ≡ class_begins (get_or text at 0) (get_or text (at + 1) 0)
  unfolding opens
  opens_at = rw (first_at, get_or-drop at text 1 0)

  pub opens_not : (get_or text at 0 ≡ code "[" → ⊥) → false ≡ opens (drop at text)
  opens_not e = sym (opens_at ∙ ap (λ t. t && eqb (get_or text (at + 1) 0) (code ":")) (ne_eqb (get_or text at 0) (code "[") e))

  pub opens_by : get_or text at 0 ≡ code "[" → eqb (get_or text (at + 1) 0) (code ":") ≡ opens (drop at text)
  opens_by e = sym (opens_at ∙ ap (λ t. t && eqb (get_or text (at + 1) 0) (code ":")) (eq-eqb (get_or text at 0) (code "[") e))

  -- `[:` and the name after it are within the text
  pub opens_within : opens (drop at text) ≡ true → at + 2 ≤ length text
  opens_within e =
      let k = sym opens_at ∙ e in
      let q = eqb-true (get_or text (at + 1) 0) (code ":") (and_right (eqb (get_or text at 0) (code "[")) (eqb (get_or text (at + 1) 0) (code ":")) k) in
      let l = byte_is text (at + 1) 57 q in
      omega arith

  pub name_within : at ≤ length text → at + length (name (drop at text)) ≤ length text
  name_within l = let h = name_short (drop at text) in let n = length-drop at text in omega arith

  pub name_part : (e : ℕ) → e ≡ at + length (name (drop at text)) → take (e - at) (drop at text) ≡ name (drop at text)
  name_part e q = let k : e - at ≡ length (name (drop at text)) = omega arith in rw k (name_taken (drop at text))

  pub sign_width_class : opens (drop at text) ≡ true → at + 2 + length (name (drop (at + 2) text)) + 2 ≡ at + sign_width (drop at text)
  sign_width_class e = rw (e, drop-drop 2 at text) (omega arith)

  pub sign_width_byte : opens (drop at text) ≡ false → at + 1 ≡ at + sign_width (drop at text)
  sign_width_byte e = rw e

  pub sign_width_some : 1 ≤ sign_width (drop at text)
  sign_width_some = by (opens (drop at text))
    where
      by : (t : Bool) → 1 ≤ cond t (2 + (length (name (drop 2 (drop at text))) + 2)) 1
      by true = omega arith
      by false = omega arith

  -- something is found in the text from there on, so it is not empty
  pub found_within : (first : Bool) → is_some (closed first (drop at text)) ≡ true → at < length text
  unfolding closed
  found_within first h = by (lt_or_le at (length text))
    where
      by : (at < length text) ⊎ (length text ≤ at) → at < length text
      by (inl l) = l
      by (inr l) =
          let z : ◌≡◌ {A = Bool} false true = sym (ap (λ s. is_some (closed first s)) (drop_all text at l)) ∙ h in
          absurd (not_both true refl (sym z))

  pub closed_at : (first : Bool) → closes first (get_or text at 0) ≡ true → closed first (drop at text) ≡ some ([], drop (at + 1) text)
  closed_at first e =
      let q : get_or text at 0 ≡ code "]" = eqb-true (get_or text at 0) (code "]") (and_right (not first) (eqb (get_or text at 0) (code "]")) e) in
      let l = byte_is text at 92 q in
      ap (closed first) (drop_here 0 text at l) ∙ closed_here first (get_or text at 0) (drop (at + 1) text) e

  -- the sign there, and the signs of the text after it
  pub step_at :
      (first : Bool) → closes first (get_or text at 0) ≡ false →
      closed first (drop at text) ≡ in_front (sign (drop at text)) (closed false (drop (at + sign_width (drop at text)) text))
  step_at first e =
      closed_step first (drop at text) (ap (closes first) first_at ∙ e)
      ∙ ap (λ s. in_front (sign (drop at text)) (closed false s)) (drop-drop (sign_width (drop at text)) at text)

  pub signs_at :
      (first : Bool) → is_some (closed first (drop at text)) ≡ true → closes first (get_or text at 0) ≡ false →
      (signs (closed first (drop at text)) ≡ sign (drop at text) ∷ signs (closed false (drop (at + sign_width (drop at text)) text)))
      × (is_some (closed false (drop (at + sign_width (drop at text)) text)) ≡ true)
  signs_at first h e =
      let q = step_at first e in
      let r = front_some (sign (drop at text)) (closed false (drop (at + sign_width (drop at text)) text)) (sym (ap is_some q) ∙ h) in
      (ap signs q ∙ r.0, r.1)
