-- Laws of the item at the front of a text: the items of a bracket are this item, if it is allowed, and the items of the text after it.
use Rattle.std.specs.Prelude.{◌≡◌, Bool, ◌&&◌, ℕ, ◌+◌, ◌≤◌, length, get_or, drop, leb}
use Rattle.std.proofs.Math.Path.{refl, sym, ap}
use Rattle.std.proofs.Common.{◌∙◌, get_or-drop}
use mathlib.Core.List.{List, [], ◌∷◌}
use Rattle.std.proofs.Math.Bool.{true, false, cond, not, and-true, and-false}
use Prim.Native.Char.{code}
use native.Mathlib.Omega.{arith}
use Rattle.std.proofs.Math.Dec.{eqb}
use borrow.Author.Tests.{eqb-true, not-true, not-false}
use Rattle.lists.specs.Cases.{provided}
use Rattle.lists.proofs.CasesLaws.{provided_none, provided_both, provided_true, provided_false}
use Rattle.lists.specs.Options.{is_some}
use Rattle.lists.proofs.OrderLaws.{and_left, and_right, not_both}
use Rattle.regex_tree.specs.Tree.{range}
use Rattle.regex_tree.specs.Sets.{Sign, byte, class, closes, closed, ranged, classed, with, one, begins, is_hyphen, range_to, items}
use Rattle.regex_signs.specs.Signs.{name, opens, sign, sign_width, signs}
use Rattle.regex_signs.specs.SignsLaws.{closed_at, signs_at, first_at, opens_byte, opens_not}
use Rattle.regex_items.specs.Items.{ranges, upto, item, width, range_fits, fits}

-- The item at the front, by its bytes.
module _ (s : List ℕ) where
  -- `[:` begins no range
  class_no_range : opens s ≡ true → ranges s ≡ false
  unfolding ranges
  class_no_range o = let q = opens_byte s o in rw q

  closing_no_range : eqb (get_or s 1 0) (code "]") ≡ true → ranges s ≡ false
  unfolding ranges
  closing_no_range e = let q = eqb-true (get_or s 1 0) (code "]") e in rw q

  pub width_some : 1 ≤ width s
  unfolding width
  width_some = by (ranges s) (opens s)
    where
      by : (r o : Bool) → 1 ≤ cond r 3 (cond o (2 + (length (name (drop 2 s)) + 2)) 1)
      by true o = omega arith
      by false true = omega arith
      by false false = omega arith

  pub width_range : ranges s ≡ true → 3 ≡ width s
  unfolding width
  width_range r = rw r

  pub width_sign : ranges s ≡ false → sign_width s ≡ width s
  unfolding width
  width_sign r = rw r

  pub upto_range : ranges s ≡ true → get_or s 2 0 ≡ upto s
  unfolding upto
  upto_range r = rw r

  pub upto_one : ranges s ≡ false → get_or s 0 0 ≡ upto s
  unfolding upto
  upto_one r = rw r

  pub item_class : opens s ≡ true → item s ≡ classed (name (drop 2 s))
  unfolding item
  item_class o = rw o

  pub item_range : opens s ≡ false → item s ≡ ranged (range (get_or s 0 0) (upto s))
  unfolding item
  item_range o = rw o

  module _ (first : Bool) where
    pub fits_class : opens s ≡ true → true ≡ fits first s
    unfolding fits
    fits_class o = rw o

    pub fits_last : opens s ≡ false → eqb (get_or s 1 0) (code "]") ≡ true → true ≡ fits first s
    unfolding fits
    fits_last o e = rw (o, e)

    fits_other : opens s ≡ false → eqb (get_or s 1 0) (code "]") ≡ false → fits first s ≡ (begins first (get_or s 0 0) && range_fits s)
    unfolding fits
    fits_other o e = rw (o, e)

    pub fits_not : opens s ≡ false → eqb (get_or s 1 0) (code "]") ≡ false → begins first (get_or s 0 0) ≡ false → false ≡ fits first s
    fits_not o e b = sym (fits_other o e ∙ ap (λ t. t && range_fits s) b)

    pub fits_by : opens s ≡ false → eqb (get_or s 1 0) (code "]") ≡ false → begins first (get_or s 0 0) ≡ true → range_fits s ≡ fits first s
    fits_by o e b = sym (fits_other o e ∙ ap (λ t. t && range_fits s) b)

  pub range_fits_one : ranges s ≡ false → true ≡ range_fits s
  unfolding range_fits
  range_fits_one r = rw r

  pub range_fits_class : ranges s ≡ true → opens (drop 2 s) ≡ true → false ≡ range_fits s
  unfolding range_fits
  range_fits_class r o = rw (r, o)

  pub range_fits_by : ranges s ≡ true → opens (drop 2 s) ≡ false → leb (get_or s 0 0) (get_or s 2 0) ≡ range_fits s
  unfolding range_fits
  range_fits_by r o = rw (r, o)

hyphen_is : (m : Sign) → is_hyphen m ≡ true → m ≡ byte (code "-")
hyphen_is (byte b) e = ap byte (eqb-true b (code "-") e)
hyphen_is (class n) e = let z : ◌≡◌ {A = ℕ} 0 1 = cc in absurd (omega arith)

-- What the items are, by the first signs.
module _ (first : Bool) (c : ℕ) where
  items_last : items first (byte c ∷ []) ≡ with (one c) (items false [])
  unfolding items
  items_last = refl

  -- the next sign does not make it a range
  items_one :
      (m : Sign) (ms : List Sign) → ((d : Sign) (r : List Sign) → ms ≡ d ∷ r → m ≡ byte (code "-") → ⊥) →
      items first (byte c ∷ (m ∷ ms)) ≡ provided (begins first c) (with (one c) (items false (m ∷ ms)))
  unfolding items
  items_one m [] h = refl
  items_one m (d ∷ ms) h = by (is_hyphen m) refl
    where
      by :
          (t : Bool) → is_hyphen m ≡ t →
          provided (begins first c) (elim t [ true ↦ range_to c d (items false ms) | false ↦ with (one c) (items false (m ∷ (d ∷ ms))) ])
          ≡ provided (begins first c) (with (one c) (items false (m ∷ (d ∷ ms))))
      by true e = absurd (h d ms refl (hyphen_is m e))
      by false e = refl

  items_to : (d : Sign) (ms : List Sign) → items first (byte c ∷ (byte (code "-") ∷ (d ∷ ms))) ≡ provided (begins first c) (range_to c d (items false ms))
  unfolding items
  items_to d ms = refl

-- The items of a bracket from an item on, if the bracket is closed after it.
pub record ItemStep (first : Bool) (s : List ℕ) : Type 0 where
  pub reads : items first (signs (closed first s)) ≡ provided (fits first s) (with (item s) (items false (signs (closed false (drop (width s) s)))))
  pub more : fits first s ≡ true → is_some (closed false (drop (width s) s)) ≡ true

-- the signs from the next byte on, and from the one after that
abbrev after : List ℕ → ℕ → List Sign
after s k = signs (closed false (drop k s))

abbrev found : List ℕ → ℕ → Type 0
found s k = is_some (closed false (drop k s)) ≡ true

module _ (first : Bool) (s : List ℕ) where
  class_step : opens s ≡ true → signs (closed first s) ≡ sign s ∷ after s (sign_width s) → found s (sign_width s) → ItemStep first s
  unfolding items provided
  class_step o q f =
      let w = width_sign s (class_no_range s o) in
      let g : sign s ≡ class (name (drop 2 s)) = rw o in
      record {
        reads =
            ap (items first) (q ∙ ap (λ m. m ∷ after s (sign_width s)) g)
            ∙ ap (λ k. with (classed (name (drop 2 s))) (items false (after s k))) w
            ∙ ap (λ i. with i (items false (after s (width s)))) (sym (item_class s o))
            ∙ sym (provided_true (fits first s) _ (sym (fits_class s first o)));
        more = λ h. rw (sym w) f;
      }

  -- a byte by itself
  one_step :
      opens s ≡ false → ranges s ≡ false →
      items first (signs (closed first s)) ≡ provided (fits first s) (with (one (get_or s 0 0)) (items false (after s 1))) → found s 1 → ItemStep first s
  one_step o r q f =
      let w : 1 ≡ width s = ap (λ t. cond t (2 + (length (name (drop 2 s)) + 2)) 1) (sym o) ∙ width_sign s r in
      let i : item s ≡ one (get_or s 0 0) = item_range s o ∙ ap (λ d. ranged (range (get_or s 0 0) d)) (sym (upto_one s r)) in
      record {
        reads = q ∙ ap (λ k. provided (fits first s) (with (one (get_or s 0 0)) (items false (after s k)))) w
            ∙ ap (λ j. provided (fits first s) (with j (items false (after s (width s))))) (sym i);
        more = λ h. rw (sym w) f;
      }

  module _ (o : opens s ≡ false) (q : signs (closed first s) ≡ byte (get_or s 0 0) ∷ after s 1) (f : found s 1) where
    -- just before the closing `]`
    last_step : eqb (get_or s 1 0) (code "]") ≡ true → ItemStep first s
    last_step e =
        let n : after s 1 ≡ [] = ap signs (closed_at s 1 false e) in
        one_step o (closing_no_range s e)
        (ap (items first) (q ∙ ap (λ ms. byte (get_or s 0 0) ∷ ms) n) ∙ items_last first (get_or s 0 0)
        ∙ ap (λ ms. with (one (get_or s 0 0)) (items false ms)) (sym n) ∙ sym (provided_true (fits first s) _ (sym (fits_last s first o e))))
        f

    module _ (e : eqb (get_or s 1 0) (code "]") ≡ false) where
      fits_one : ranges s ≡ false → fits first s ≡ begins first (get_or s 0 0)
      fits_one r = fits_other s first o e ∙ ap (λ t. begins first (get_or s 0 0) && t) (sym (range_fits_one s r)) ∙ and-true (begins first (get_or s 0 0))

      -- another sign, which does not make it a range
      plain_step :
          ranges s ≡ false → (m : Sign) (ms : List Sign) → after s 1 ≡ m ∷ ms → ((d : Sign) (r : List Sign) → ms ≡ d ∷ r → m ≡ byte (code "-") → ⊥) →
          ItemStep first s
      plain_step r m ms n h =
          one_step o r
          (ap (items first) (q ∙ ap (λ l. byte (get_or s 0 0) ∷ l) n) ∙ items_one first (get_or s 0 0) m ms h
          ∙ ap (λ l. provided (begins first (get_or s 0 0)) (with (one (get_or s 0 0)) (items false l))) (sym n)
          ∙ ap (λ t. provided t (with (one (get_or s 0 0)) (items false (after s 1)))) (sym (fits_one r)))
          f

      -- a range, to a class or to a byte
      range_step :
          ranges s ≡ true → after s 1 ≡ byte (code "-") ∷ after s 2 → after s 2 ≡ sign (drop 2 s) ∷ after s (2 + sign_width (drop 2 s)) →
          found s (2 + sign_width (drop 2 s)) → ItemStep first s
      range_step r n k g = by (opens (drop 2 s)) refl
        where
          c : ℕ
          c = get_or s 0 0

          to : (d : Sign) (l : List Sign) → after s 2 ≡ d ∷ l → items first (signs (closed first s)) ≡ provided (begins first c) (range_to c d (items false l))
          to d l k = ap (items first) (q ∙ ap (λ l. byte c ∷ l) (n ∙ ap (λ l. byte (code "-") ∷ l) k)) ∙ items_to first c d l

          by : (t : Bool) → opens (drop 2 s) ≡ t → ItemStep first s
          by true u =
              let x : fits first s ≡ false = fits_other s first o e ∙ ap (λ t. begins first c && t) (sym (range_fits_class s r u)) ∙ and-false (begins first c) in
              let d : sign (drop 2 s) ≡ class (name (drop 2 (drop 2 s))) = rw u in
              record {
                reads = to (class (name (drop 2 (drop 2 s)))) (after s (2 + sign_width (drop 2 s))) (k ∙ ap (λ m. m ∷ after s (2 + sign_width (drop 2 s))) d)
                    ∙ provided_none (begins first c) ∙ sym (provided_false (fits first s) (with (item s) (items false (after s (width s)))) x);
                more = λ h. absurd (not_both true refl (sym h ∙ x));
              }
          by false u =
              let x : fits first s ≡ (begins first c && leb c (get_or s 2 0)) = fits_other s first o e ∙ ap (λ t. begins first c && t) (sym (range_fits_by s r u)) in
              let d : sign (drop 2 s) ≡ byte (get_or s 2 0) = rw u (ap byte (get_or-drop 2 s 0 0)) in
              let p : 2 + sign_width (drop 2 s) ≡ width s = ap (λ t. 2 + cond t (2 + (length (name (drop 2 (drop 2 s))) + 2)) 1) u ∙ width_range s r in
              let i : item s ≡ ranged (range c (get_or s 2 0)) = item_range s o ∙ ap (λ d. ranged (range c d)) (sym (upto_range s r)) in
              record {
                reads = to (byte (get_or s 2 0)) (after s (2 + sign_width (drop 2 s))) (k ∙ ap (λ m. m ∷ after s (2 + sign_width (drop 2 s))) d)
                    ∙ provided_both (begins first c) (leb c (get_or s 2 0)) (with (ranged (range c (get_or s 2 0))) (items false (after s (2 + sign_width (drop 2 s)))))
                    ∙ ap (λ t. provided t (with (ranged (range c (get_or s 2 0))) (items false (after s (2 + sign_width (drop 2 s)))))) (sym x)
                    ∙ ap (λ k. provided (fits first s) (with (ranged (range c (get_or s 2 0))) (items false (after s k)))) p
                    ∙ ap (λ j. provided (fits first s) (with j (items false (after s (width s))))) (sym i);
                more = λ h. rw (sym p) g;
              }

  -- where there is a range, `-` is a sign
  hyphen_at : ranges s ≡ true → get_or s 1 0 ≡ code "-"
  unfolding ranges
  hyphen_at r = eqb-true (get_or s 1 0) (code "-") (and_left (eqb (get_or s 1 0) (code "-")) (not (eqb (get_or s 2 0) (code "]"))) r)

  more_at : ranges s ≡ true → eqb (get_or s 2 0) (code "]") ≡ false
  unfolding ranges
  more_at r = not-true (eqb (get_or s 2 0) (code "]")) (and_right (eqb (get_or s 1 0) (code "-")) (not (eqb (get_or s 2 0) (code "]"))) r)

  -- where there is none, a `-` is just before the closing `]`
  last_at : ranges s ≡ false → get_or s 1 0 ≡ code "-" → eqb (get_or s 2 0) (code "]") ≡ true
  unfolding ranges
  last_at r e = not-false (eqb (get_or s 2 0) (code "]")) (ap (λ b. eqb b (code "-") && not (eqb (get_or s 2 0) (code "]"))) (sym e) ∙ r)

  hyphen_byte : get_or s 1 0 ≡ code "-" → opens (drop 1 s) ≡ false
  hyphen_byte e = sym (opens_not s 1 (λ z. let y : code "-" ≡ code "[" = sym e ∙ z in absurd (omega arith)))

  -- the sign after the first one
  abbrev next : Sign
  next = sign (drop 1 s)

  byte_next : (b : ℕ) → next ≡ byte b → (opens (drop 1 s) ≡ false) × (get_or s 1 0 ≡ b)
  byte_next b e = by (opens (drop 1 s)) refl e
    where
      by : (t : Bool) → opens (drop 1 s) ≡ t → cond t (class (name (drop 2 (drop 1 s)))) (byte (get_or (drop 1 s) 0 0)) ≡ byte b → (opens (drop 1 s) ≡ false) × (get_or s 1 0 ≡ b)
      by true o k = let z : ◌≡◌ {A = ℕ} 0 1 = cc in absurd (omega arith)
      by false o k = let f = first_at s 1 in (o, cc)

  next_width : opens (drop 1 s) ≡ false → 1 + sign_width (drop 1 s) ≡ 2
  next_width o = ap (λ t. 1 + cond t (2 + (length (name (drop 2 (drop 1 s))) + 2)) 1) o

  no_range :
      ranges s ≡ false → (d : Sign) (l : List Sign) → after s (1 + sign_width (drop 1 s)) ≡ d ∷ l → next ≡ byte (code "-") → ⊥
  no_range r d l k h =
      let b = byte_next (code "-") h in
      let n : after s 2 ≡ [] = ap signs (closed_at s 2 false (last_at r b.1)) in
      let m : after s (1 + sign_width (drop 1 s)) ≡ after s 2 = ap (after s) (next_width b.0) in
      let z : ◌≡◌ {A = ℕ} 0 1 = cc in omega arith

  byte_step : opens s ≡ false → signs (closed first s) ≡ byte (get_or s 0 0) ∷ after s 1 → found s 1 → ItemStep first s
  byte_step o q f = by (eqb (get_or s 1 0) (code "]")) refl
    where
      by_range : (e : eqb (get_or s 1 0) (code "]") ≡ false) (t : Bool) → ranges s ≡ t → ItemStep first s
      by_range e false r =
          let n = signs_at s 1 false f e in
          plain_step o q f e r next (after s (1 + sign_width (drop 1 s))) n.0 (no_range r)
      by_range e true r =
          let n = signs_at s 1 false f e in
          let h = hyphen_at r in
          let u = hyphen_byte h in
          let b : next ≡ byte (code "-") = rw u (ap byte (first_at s 1 ∙ h)) in
          let p = next_width u in
          let m = signs_at s 2 false (rw p at n.1) (more_at r) in
          range_step o q f e r (n.0 ∙ ap (λ g. g ∷ after s (1 + sign_width (drop 1 s))) b ∙ ap (λ k. byte (code "-") ∷ after s k) p) m.0 m.1

      by : (t : Bool) → eqb (get_or s 1 0) (code "]") ≡ t → ItemStep first s
      by true e = last_step o q f e
      by false e = by_range e (ranges s) refl

  pub item_step : is_some (closed first s) ≡ true → closes first (get_or s 0 0) ≡ false → ItemStep first s
  item_step f e = by (opens s) refl (signs_at s 0 first f e)
    where
      by :
          (t : Bool) → opens s ≡ t →
          (signs (closed first s) ≡ sign s ∷ after s (0 + sign_width s)) × found s (0 + sign_width s) → ItemStep first s
      by true o n = let z : 0 + sign_width s ≡ sign_width s = omega arith in class_step o (rw z at n.0) (rw z at n.1)
      by false o n =
          let z : 0 + sign_width s ≡ 1 = ap (λ t. 0 + cond t (2 + (length (name (drop 2 s)) + 2)) 1) o in
          let g : sign s ≡ byte (get_or s 0 0) = rw o in
          byte_step o (n.0 ∙ ap (λ m. m ∷ after s (0 + sign_width s)) g ∙ ap (λ k. byte (get_or s 0 0) ∷ after s k) z) (rw z at n.1)
