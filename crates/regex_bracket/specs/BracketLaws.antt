-- The bracket at a place of a text: its first sign, its end and its members.
use Rattle.std.proofs.Math.Path.{◌≡◌, refl, sym, ap}
use Rattle.std.proofs.Common.{◌∙◌, inl, inr, eq-eqb, ne_eqb, lt-ltb, le-ltb}
use Rattle.std.specs.Prelude.{◌⊎◌, Bool, ℕ, ◌+◌, ◌≤◌, ◌<◌, get_or, drop, eqb}
use Rattle.std.proofs.Math.Option.{Option, some, none}
use mathlib.Core.List.{List, flat_map}
use Rattle.std.proofs.Math.Bool.{true, false, cond, not}
use Prim.Native.Char.{code}
use native.Mathlib.Omega.{arith}
use Rattle.std.proofs.Math.ListN.{length}
use Rattle.lists.specs.Cases.{provided}
use Rattle.lists.specs.Options.{is_some, listed}
use Rattle.lists.proofs.OptionsLaws.{some_found, none_found}
use Rattle.lists.proofs.OrderLaws.{lt_or_le, not_both}
use Rattle.refusal.specs.declared.Refusal.TheVariants as refusal
use Rattle.text.specs.Text.{rest}
use Rattle.text.proofs.TextLaws.{next_at, rest_at, place_drop}
use Rattle.regex_tree.specs.Tree.{Range, Set, only, except, member, among}
use Rattle.regex_tree.specs.Parsing.{Parsing, found, fault, then, enclosed}
use Rattle.regex_tree.specs.Sets.{Sign, closed, sign_bytes, reserved, Item, items, members, ranges_of, known, inside, bracket}
use Rattle.regex_signs.specs.Signs.{signs}
use Rattle.regex_items.specs.Items.{Closing, left, resolved}
use Rattle.regex_items.specs.LeftLoops.{left_first, closing_first}
use Rattle.std.specs.Prelude.{Ok, Err}
use Rattle.regex_bracket.specs.Answers.{end_of, set_of, is_found, opened, after, beyond, formed, bracket_at}

pub opened_except : (text : List ℕ) (at : ℕ) → get_or text (at + 1) 0 ≡ code "^" → at + 2 ≡ opened text at
unfolding opened
opened_except text at e = rw (eq-eqb (get_or text (at + 1) 0) (code "^") e)

pub opened_only : (text : List ℕ) (at : ℕ) → (get_or text (at + 1) 0 ≡ code "^" → ⊥) → at + 1 ≡ opened text at
unfolding opened
opened_only text at e = rw (ne_eqb (get_or text (at + 1) 0) (code "^") e)

-- complemented or not
abbrev kind : Bool → List Range → Set
kind true = except
kind false = only

abbrev complements : List ℕ → ℕ → Bool
complements text at = eqb (get_or text (at + 1) 0) (code "^")

bracket_inside : (text : List ℕ) (at : ℕ) → bracket_at text at ≡ inside (kind (complements text at)) (drop at text) (drop (opened text at) text)
unfolding bracket opened
bracket_inside text at = rw (next_at "^" text (at + 1) refl, bracket) (by (complements text at))
  where
    by :
        (t : Bool) →
        ◌≡◌ {A = Parsing Set} (elim t [
          | true ↦ inside except (drop at text) (rest (drop (at + 1) text))
          | false ↦ inside only (drop at text) (drop (at + 1) text)
        ]) (inside (kind t) (drop at text) (drop (cond t (at + 2) (at + 1)) text))
    by true = let e : at + 1 + 1 ≡ at + 2 = omega arith in rw (rest_at text (at + 1), e)
    by false = refl

-- What a bracket gives, where w begins with its `[`: by its signs and the text after it, if it is closed.
module _ (f : List Range → Set) (w : List ℕ) where
  abbrev result : Option (List Sign × List ℕ) → Parsing Set
  result y = then (enclosed refusal.Bracket w members y) (known f w)

  result_open : result none ≡ fault refusal.Bracket w
  unfolding then enclosed
  result_open = refl

  module _ (s : List Sign) (r : List ℕ) where
    result_spoilt : members s ≡ none → result (some (s, r)) ≡ fault refusal.Bracket w
    unfolding then enclosed
    result_spoilt e = rw (e, enclosed)

    result_items : (is : List Item) → members s ≡ some is → result (some (s, r)) ≡ known f w is r
    unfolding then enclosed
    result_items is e = rw (e, enclosed)

  known_not : (is : List Item) (r : List ℕ) → ranges_of is ≡ none → known f w is r ≡ fault refusal.ClassName w
  unfolding known
  known_not is r e = rw (e, known)

  known_all : (is : List Item) (r : List ℕ) (rs : List Range) → ranges_of is ≡ some rs → known f w is r ≡ found (f rs) r
  unfolding known
  known_all is r rs e = rw (e, known)

-- members are items, if nothing is reserved
members_items : (s : List Sign) (is : List Item) → members s ≡ some is → items true s ≡ some is
unfolding members provided
members_items s is e = by (reserved (flat_map sign_bytes s)) e
  where
    by : (t : Bool) → provided (not t) (items true s) ≡ some is → items true s ≡ some is
    by true k = let z : ◌≡◌ {A = ℕ} 0 1 = cc in absurd (omega arith)
    by false k = k

-- The bracket at a place, with its first sign at `first`.
module _ (text : List ℕ) (at first : ℕ) (opens : first ≡ opened text at) where
  abbrev which : List Range → Set
  which = kind (complements text at)

  abbrev start : List ℕ
  start = drop at text

  abbrev its_closed : Option (List Sign × List ℕ)
  its_closed = closed true (drop first text)

  bracket_result : bracket_at text at ≡ result which start its_closed
  unfolding inside
  bracket_result = bracket_inside text at ∙ ap (λ i. inside which start (drop i text)) (sym opens)

  spoilt_fault : is_some (formed its_closed) ≡ false → bracket_at text at ≡ fault refusal.Bracket start
  spoilt_fault h = bracket_result ∙ by its_closed (none_found (formed its_closed) h)
    where
      by : (y : Option (List Sign × List ℕ)) → formed y ≡ none → result which start y ≡ fault refusal.Bracket start
      by none e = result_open which start
      by (some x) e = result_spoilt which start x.0 x.1 e

  pub bracket_spoilt : is_some (formed its_closed) ≡ false → Err refusal.Bracket ≡ end_of text (bracket_at text at)
  bracket_spoilt h = sym (ap (end_of text) (spoilt_fault h))

  -- The bracket is closed, and its items are well formed.
  module _ (m : is_some (formed its_closed) ≡ true) where
    its_items : List Item
    its_items = (some_found (formed its_closed) m).0

    are_formed : formed its_closed ≡ some its_items
    unfolding its_items
    are_formed = (some_found (formed its_closed) m).1

    -- as the loops go through them
    formed_items : left text first first ≡ some its_items
    formed_items = left_first text first ∙ by its_closed are_formed
      where
        by : (y : Option (List Sign × List ℕ)) → formed y ≡ some its_items → items true (signs y) ≡ some its_items
        by none e = let z : ◌≡◌ {A = ℕ} 0 1 = cc in absurd (omega arith)
        by (some x) e = members_items x.0 its_items e

    pub bracket_left : is_some (left text first first) ≡ true
    bracket_left = ap is_some formed_items

    pub bracket_closing : Closing text first first
    bracket_closing = closing_first text first (by its_closed m)
      where
        by : (y : Option (List Sign × List ℕ)) → is_some (formed y) ≡ true → is_some y ≡ true
        by none e = e
        by (some x) e = refl

    -- the text after it
    its_rest : (r : List ℕ) × (after its_closed ≡ some r)
    its_rest = by its_closed m
      where
        by : (y : Option (List Sign × List ℕ)) → is_some (formed y) ≡ true → (r : List ℕ) × (after y ≡ some r)
        by none e = let z : ◌≡◌ {A = ℕ} 0 1 = cc in absurd (omega arith)
        by (some x) e = (x.1, refl)

    -- what it gives
    module _ (r : List ℕ) (is : after its_closed ≡ some r) where
      gives : bracket_at text at ≡ known which start its_items r
      gives = bracket_result ∙ by its_closed are_formed is
        where
          by : (y : Option (List Sign × List ℕ)) → formed y ≡ some its_items → after y ≡ some r → result which start y ≡ known which start its_items r
          by none f e = let z : ◌≡◌ {A = ℕ} 0 1 = cc in absurd (omega arith)
          by (some x) f e = let q : x.1 ≡ r = cc in result_items which start x.0 x.1 its_items f ∙ ap (known which start its_items) q

      unknown_fault : is_some (resolved (left text first first)) ≡ false → bracket_at text at ≡ fault refusal.ClassName start
      unknown_fault h =
          gives ∙ known_not which start its_items r (ap resolved (sym formed_items) ∙ none_found (resolved (left text first first)) h)

      known_set : is_some (resolved (left text first first)) ≡ true → bracket_at text at ≡ found (which (listed (resolved (left text first first)))) r
      known_set h =
          let rs = some_found (resolved (left text first first)) h in
          gives ∙ known_all which start its_items r rs.0 (ap resolved (sym formed_items) ∙ rs.1) ∙ ap (λ y. found (which (listed y)) r) (sym rs.1)

    module _ (e : ℕ) (is : beyond text e ≡ after its_closed) where
      pub bracket_end : e + 1 ≤ length text
      unfolding beyond
      bracket_end = by (lt_or_le e (length text))
        where
          by : (e < length text) ⊎ (length text ≤ e) → e + 1 ≤ length text
          by (inl l) = omega arith
          by (inr l) =
              let n : after its_closed ≡ none = sym is ∙ rw (le-ltb e (length text) l) in
              let r = its_rest.1 in
              let z : ◌≡◌ {A = ℕ} 0 1 = cc in absurd (omega arith)

      after_is : after its_closed ≡ some (drop (e + 1) text)
      unfolding beyond
      after_is = let l = bracket_end in sym is ∙ rw (lt-ltb e (length text) (omega arith))

      pub bracket_unknown : is_some (resolved (left text first first)) ≡ false → Err refusal.ClassName ≡ end_of text (bracket_at text at)
      bracket_unknown h = sym (ap (end_of text) (unknown_fault (drop (e + 1) text) after_is h))

      pub bracket_ends : is_some (resolved (left text first first)) ≡ true → Ok (e + 1) ≡ end_of text (bracket_at text at)
      bracket_ends h = ap Ok (sym (place_drop text (e + 1) bracket_end)) ∙ sym (ap (end_of text) (known_set (drop (e + 1) text) after_is h))

  -- A set was found: the bracket is well formed, each class is known, and the members are those of its items.
  module _ (good : is_found (bracket_at text at) ≡ true) where
    pub good_formed : is_some (formed its_closed) ≡ true
    good_formed = by (is_some (formed its_closed)) refl
      where
        by : (t : Bool) → is_some (formed its_closed) ≡ t → t ≡ true
        by true e = refl
        by false e = absurd (not_both true refl (sym good ∙ ap is_found (spoilt_fault e)))

    pub good_known : is_some (resolved (left text first first)) ≡ true
    good_known = by (is_some (resolved (left text first first))) refl
      where
        by : (t : Bool) → is_some (resolved (left text first first)) ≡ t → t ≡ true
        by true e = refl
        by false e = absurd (not_both true refl (sym good ∙ ap is_found (unknown_fault good_formed (its_rest good_formed).0 (its_rest good_formed).1 e)))

    holds : (x : ℕ) → member (set_of (bracket_at text at)) x ≡ member (which (listed (resolved (left text first first)))) x
    holds x = ap (λ y. member (set_of y) x) (known_set good_formed (its_rest good_formed).0 (its_rest good_formed).1 good_known)

    pub bracket_only : (x : ℕ) → first ≡ at + 1 → among (listed (resolved (left text first first))) x ≡ member (set_of (bracket_at text at)) x
    unfolding opened
    bracket_only x q = by (complements text at) refl opens ∙ sym (holds x)
      where
        by :
            (t : Bool) → complements text at ≡ t → first ≡ cond t (at + 2) (at + 1) →
            among (listed (resolved (left text first first))) x ≡ member (which (listed (resolved (left text first first)))) x
        by true k h = absurd (omega arith)
        by false k h = rw k

    pub bracket_except :
        (x : ℕ) → (first ≡ at + 1 → ⊥) → not (among (listed (resolved (left text first first))) x) ≡ member (set_of (bracket_at text at)) x
    unfolding opened
    bracket_except x q = by (complements text at) refl opens ∙ sym (holds x)
      where
        by :
            (t : Bool) → complements text at ≡ t → first ≡ cond t (at + 2) (at + 1) →
            not (among (listed (resolved (left text first first))) x) ≡ member (which (listed (resolved (left text first first)))) x
        by true k h = rw k
        by false k h = absurd (q h)
