-- The item at a place of a text, by the bytes there.
use Rattle.std.specs.Prelude.{◌≡◌, List, Bool, true, false, not, ◌&&◌, ℕ, ◌+◌, get_or, drop, eqb, leb}
use Rattle.std.proofs.Common.{sym, ap, ◌∙◌, drop-drop, eq-eqb, ne_eqb}
use Rattle.std.proofs.Math.Bool.{or-false}
use Prim.Native.Char.{code}
use Rattle.std.proofs.Math.Seq.{get_or-drop}
use Rattle.lists.specs.Options.{is_some, listed}
use Rattle.regex_tree.specs.Tree.{range, within, among}
use Rattle.regex_tree.specs.Classes.{class_ranges}
use Rattle.regex_tree.specs.Sets.{item_ranges, begins}
use Rattle.regex_signs.specs.Signs.{name, opens}
use Rattle.regex_signs.specs.SignsLaws.{first_at}
use Rattle.regex_items.specs.Items.{ranges, upto, item, range_fits, fits}
use Rattle.regex_items.specs.ItemsLaws.{upto_range, upto_one, item_class, item_range, range_fits_class, range_fits_by, fits_last, fits_not, fits_by}

module _ (text : List ℕ) (at : ℕ) where
  abbrev rest : List ℕ
  rest = drop at text

  ranges_first : ranges rest ≡ (eqb (get_or text (at + 1) 0) (code "-") && not (eqb (get_or text (at + 2) 0) (code "]")))
  unfolding ranges
  ranges_first = rw (get_or-drop at text 1 0, get_or-drop at text 2 0)

  pub ranges_not : (get_or text (at + 1) 0 ≡ code "-" → ⊥) → false ≡ ranges rest
  ranges_not e = sym (ranges_first ∙ ap (λ t. t && not (eqb (get_or text (at + 2) 0) (code "]"))) (ne_eqb (get_or text (at + 1) 0) (code "-") e))

  pub ranges_by : get_or text (at + 1) 0 ≡ code "-" → not (eqb (get_or text (at + 2) 0) (code "]")) ≡ ranges rest
  ranges_by e = sym (ranges_first ∙ ap (λ t. t && not (eqb (get_or text (at + 2) 0) (code "]"))) (eq-eqb (get_or text (at + 1) 0) (code "-") e))

  pub upto_range_at : ranges rest ≡ true → get_or text (at + 2) 0 ≡ upto rest
  upto_range_at r = sym (get_or-drop at text 2 0) ∙ upto_range rest r

  pub upto_one_at : ranges rest ≡ false → get_or text at 0 ≡ upto rest
  upto_one_at r = sym (first_at text at) ∙ upto_one rest r

  pub range_fits_class_at : ranges rest ≡ true → opens (drop (at + 2) text) ≡ true → false ≡ range_fits rest
  range_fits_class_at r o = range_fits_class rest r (ap opens (drop-drop 2 at text) ∙ o)

  pub range_fits_by_at : ranges rest ≡ true → opens (drop (at + 2) text) ≡ false → leb (get_or text at 0) (get_or text (at + 2) 0) ≡ range_fits rest
  range_fits_by_at r o = rw (sym (first_at text at), sym (get_or-drop at text 2 0)) (range_fits_by rest r (ap opens (drop-drop 2 at text) ∙ o))

  module _ (o : opens rest ≡ false) where
    pub fits_last_at : (i : Bool) → get_or text (at + 1) 0 ≡ code "]" → true ≡ fits i rest
    fits_last_at i e = fits_last rest i o (eq-eqb (get_or rest 1 0) (code "]") (get_or-drop at text 1 0 ∙ e))

    module _ (e : get_or text (at + 1) 0 ≡ code "]" → ⊥) where
      not_last : eqb (get_or rest 1 0) (code "]") ≡ false
      not_last = ne_eqb (get_or rest 1 0) (code "]") (λ q. e (sym (get_or-drop at text 1 0) ∙ q))

      pub fits_not_at : (i : Bool) → begins i (get_or text at 0) ≡ false → false ≡ fits i rest
      fits_not_at i b = fits_not rest i o not_last (ap (begins i) (first_at text at) ∙ b)

      pub fits_by_at : (i : Bool) → begins i (get_or text at 0) ≡ true → range_fits rest ≡ fits i rest
      fits_by_at i b = fits_by rest i o not_last (ap (begins i) (first_at text at) ∙ b)

  -- a class, or a range of bytes
  module _ (o : opens rest ≡ true) where
    class_at : item_ranges (item rest) ≡ class_ranges (name (drop (at + 2) text))
    class_at = ap item_ranges (item_class rest o) ∙ ap (λ s. class_ranges (name s)) (drop-drop 2 at text)

    pub known_class : is_some (class_ranges (name (drop (at + 2) text))) ≡ is_some (item_ranges (item rest))
    known_class = ap is_some (sym class_at)

    pub has_class : (b : ℕ) → among (listed (class_ranges (name (drop (at + 2) text)))) b ≡ among (listed (item_ranges (item rest))) b
    has_class b = ap (λ x. among (listed x) b) (sym class_at)

  module _ (o : opens rest ≡ false) where
    pub known_range : true ≡ is_some (item_ranges (item rest))
    known_range = ap (λ i. is_some (item_ranges i)) (sym (item_range rest o))

    pub has_range : (b : ℕ) → within (range (get_or text at 0) (upto rest)) b ≡ among (listed (item_ranges (item rest))) b
    has_range b =
        ap (λ c. within (range c (upto rest)) b) (sym (first_at text at)) ∙ sym (or-false (within (range (get_or rest 0 0) (upto rest)) b))
        ∙ ap (λ i. among (listed (item_ranges i)) b) (sym (item_range rest o))
