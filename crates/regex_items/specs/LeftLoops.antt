-- The items of a bracket from a place on, one item at a time, as the loops go through them.
use Rattle.std.specs.Prelude.{◌≡◌, refl, List, [], Bool, true, false, ◌&&◌, ◌||◌, ℕ, ◌+◌, ◌≤◌, ◌<◌, length, get_or, drop, eqb}
use Rattle.std.proofs.Common.{sym, ◌∙◌, arith, drop-drop, eq-eqb, ne_eqb}
use Rattle.std.proofs.Math.Path.{ap}
use Rattle.std.proofs.Math.Option.{Option, some, none}
use Rattle.lists.specs.Cases.{provided}
use Rattle.lists.proofs.CasesLaws.{provided_true, provided_false}
use Rattle.lists.specs.Options.{is_some, listed}
use Rattle.lists.proofs.OrderLaws.{and_right, not_both}
use Rattle.regex_tree.specs.Tree.{Range, among}
use Rattle.regex_tree.specs.Sets.{closes, closed, Item, with, items, item_ranges, together, ranges_of}
use Rattle.regex_tree.proofs.RangesLaws.{together_known, together_among}
use Rattle.regex_signs.specs.Signs.{signs}
use Rattle.regex_signs.specs.SignsLaws.{closed_at, first_at, found_within}
use Rattle.regex_items.specs.Items.{item, width, fits, Closing, left, resolved}
use Rattle.regex_items.specs.ItemsLaws.{width_some, ItemStep, item_step}

with_some : (i : Item) (x : Option (List Item)) → is_some (with i x) ≡ is_some x
with_some i none = refl
with_some i (some is) = refl

resolved_with : (i : Item) (x : Option (List Item)) → resolved (with i x) ≡ together (item_ranges i) (resolved x)
unfolding ranges_of
resolved_with i none = by (item_ranges i)
  where
    by : (y : Option (List Range)) → none ≡ together y none
    by none = refl
    by (some rs) = refl
resolved_with i (some is) = refl

-- what is known is well formed
resolved_some : (x : Option (List Item)) → is_some (resolved x) ≡ true → is_some x ≡ true
resolved_some none e = e
resolved_some (some is) e = refl

pub left_first : (text : List ℕ) (first : ℕ) → left text first first ≡ items true (signs (closed true (drop first text)))
left_first text first = rw (eq-eqb first first refl)

pub closing_first : (text : List ℕ) (first : ℕ) → is_some (closed true (drop first text)) ≡ true → Closing text first first
closing_first text first h = rw (eq-eqb first first refl) h

-- a place in the bracket, from its first sign to its closing `]`
pub record Inner (text : List ℕ) (first at : ℕ) : Type 0 where
  pub order : first ≤ at
  pub closing : Closing text first at

module _ {text : List ℕ} {first at : ℕ} (p : Inner text first at) where
  pub inner_within : at < length text
  inner_within = found_within text at (eqb at first) p.closing

  -- at the closing `]` there is no item
  module _ (here : closes (eqb at first) (get_or text at 0) ≡ true) where
    left_end : left text first at ≡ some []
    unfolding items
    left_end = ap (λ x. items (eqb at first) (signs x)) (closed_at text at (eqb at first) here)

    pub some_end : is_some (left text first at) ≡ true
    some_end = ap is_some left_end

    pub known_end : is_some (resolved (left text first at)) ≡ true
    unfolding ranges_of
    known_end = ap (λ x. is_some (resolved x)) left_end

    pub among_end : (b : ℕ) → among (listed (resolved (left text first at))) b ≡ false
    unfolding ranges_of
    among_end b = ap (λ x. among (listed (resolved x)) b) left_end

  -- Before it there is one.
  module _ (inside : closes (eqb at first) (get_or text at 0) ≡ false) where
    abbrev rest : List ℕ
    rest = drop at text

    abbrev allowed : Bool
    allowed = fits (eqb at first) rest

    abbrev pub beyond : ℕ
    beyond = at + width rest

    step : ItemStep (eqb at first) rest
    step = item_step (eqb at first) rest p.closing (ap (closes (eqb at first)) (first_at text at) ∙ inside)

    not_first : eqb beyond first ≡ false
    not_first = let o = p.order in ne_eqb beyond first (λ z. omega (arith, width_some rest))

    pub inner_more : allowed ≡ true → Inner text first beyond
    inner_more h =
        let o = p.order in
        record { order = omega arith; closing = rw (not_first, sym (drop-drop (width rest) at text)) (step.more h) }

    left_step : left text first at ≡ provided allowed (with (item rest) (left text first beyond))
    left_step = step.reads ∙ rw (not_first, drop-drop (width rest) at text)

    pub left_spoilt : allowed ≡ false → is_some (left text first at) ≡ false
    left_spoilt h = ap is_some (left_step ∙ provided_false allowed (with (item rest) (left text first beyond)) h)

    left_item : allowed ≡ true → left text first at ≡ with (item rest) (left text first beyond)
    left_item h = left_step ∙ provided_true allowed (with (item rest) (left text first beyond)) h

    pub left_more : allowed ≡ true → is_some (left text first at) ≡ is_some (left text first beyond)
    left_more h = ap is_some (left_item h) ∙ with_some (item rest) (left text first beyond)

    -- Where all are well formed, this one is.
    module _ (good : is_some (left text first at) ≡ true) where
      pub is_allowed : allowed ≡ true
      is_allowed = by allowed refl
        where
          by : (t : Bool) → allowed ≡ t → t ≡ true
          by true e = refl
          by false e = absurd (not_both true refl (sym good ∙ left_spoilt e))

      pub some_more : is_some (left text first beyond) ≡ true
      some_more = sym (left_more is_allowed) ∙ good

      joined : resolved (left text first at) ≡ together (item_ranges (item rest)) (resolved (left text first beyond))
      joined = ap resolved (left_item is_allowed) ∙ resolved_with (item rest) (left text first beyond)

      all_known : is_some (resolved (left text first at)) ≡ (is_some (item_ranges (item rest)) && is_some (resolved (left text first beyond)))
      all_known = ap is_some joined ∙ together_known (item_ranges (item rest)) (resolved (left text first beyond))

      pub unknown_here : is_some (item_ranges (item rest)) ≡ false → is_some (resolved (left text first at)) ≡ false
      unknown_here e = all_known ∙ ap (λ t. t && is_some (resolved (left text first beyond))) e

      pub known_more : is_some (item_ranges (item rest)) ≡ true → is_some (resolved (left text first at)) ≡ is_some (resolved (left text first beyond))
      known_more e = all_known ∙ ap (λ t. t && is_some (resolved (left text first beyond))) e

    -- Where all are known, a byte is in this item's ranges or in those of a later one.
    module _ (known : is_some (resolved (left text first at)) ≡ true) where
      pub known_good : is_some (left text first at) ≡ true
      known_good = resolved_some (left text first at) known

      pub resolved_more : is_some (resolved (left text first beyond)) ≡ true
      resolved_more =
          and_right (is_some (item_ranges (item rest))) (is_some (resolved (left text first beyond))) (sym (all_known known_good) ∙ known)

      among_more :
          (b : ℕ) → among (listed (resolved (left text first at))) b
          ≡ (among (listed (item_ranges (item rest))) b || among (listed (resolved (left text first beyond))) b)
      among_more b =
          ap (λ x. among (listed x) b) (joined known_good)
          ∙ together_among (item_ranges (item rest)) (resolved (left text first beyond)) b (sym (ap is_some (joined known_good)) ∙ known)

      pub among_here : (b : ℕ) → among (listed (item_ranges (item rest))) b ≡ true → among (listed (resolved (left text first at))) b ≡ true
      among_here b e = among_more b ∙ rw e

      pub among_past :
          (b : ℕ) → among (listed (item_ranges (item rest))) b ≡ false →
          among (listed (resolved (left text first at))) b ≡ among (listed (resolved (left text first beyond))) b
      among_past b e = among_more b ∙ rw e
