-- What a piece and a group are made of, by the steps of the parser: copies of a group, a set, or an alternation in parentheses.
use Rattle.std.specs.Prelude.{◌≡◌, List, Bool, length, get_or}
use Rattle.std.proofs.Math.Path.{refl, ap, subst}
use Rattle.std.proofs.Common.{sym, ◌∙◌, eqb-true, eq-eqb, ne_eqb}
use Rattle.std.proofs.Math.Bool.{true, false}
use Prim.Native.Nat.{ℕ, zero, suc, ◌+◌, ◌-◌, ◌≤◌, ◌<◌}
use Prim.Native.Char.{code}
use native.Mathlib.Omega.{arith}
use Rattle.std.proofs.Math.ListN.{drop}
use Rattle.std.proofs.Math.Dec.{eqb}
use Rattle.refusal.specs.declared.Refusal.TheVariants as refusal
use Rattle.regex_tree.specs.Tree.{Set, Count, between, Tree, set, group, times}
use Rattle.regex_tree.specs.Parsing.{Parsing, found, fault, then}
use Rattle.text.specs.Text.{next, rest}
use Rattle.text.specs.Places.{place}
use Rattle.regex_tree.specs.Letters.{labels_of}
use Rattle.regex_tree.specs.Sets.{a_set, labelled_set}
use Rattle.regex_tree.specs.Repetition.{repeats, repetition}
use Rattle.regex_tree.specs.Parse.{m_alternation, m_piece, m_group, grouped, step, parse}
use Rattle.regex_tree.proofs.SaysLaws.{Says}
use Rattle.regex_tree.proofs.OwnLaws.{Here}
use Rattle.regex_tree.proofs.OwnCountsLaws.{InRange, Repeating, repetition_says}
use Rattle.regex_tree.proofs.StepsLaws.{parse_step}
use Rattle.positions.specs.Opened.{opened, repeated}
use Rattle.text.proofs.TextLaws.{place_drop, next_at, rest_at, byte_is}
use Rattle.regex_bracket.specs.Answers.{is_found, set_of}
use Rattle.positions_letters.specs.Found.{rest_of, tree_of, count_of, counted}
use Rattle.positions_letters.specs.FoundLaws.{counted_repeated, counted_plain, not_found}
use Rattle.positions_build.specs.CopiesLaws.{Alike, alike_by, one_copy}
use Rattle.positions_build.specs.Places.{PartAt, tree_at, end_at}
use Rattle.positions_build.specs.MadeLaws.{first_found, goes_on}

module _ (A text : List ℕ) where
  -- a group, repeated or not
  abbrev repeating : Bool → Tree → List ℕ → Parsing Tree
  repeating b t s = elim b [ true ↦ then (repetition s) (λ c r. found (times t c) r) | false ↦ found t s ]

  -- x is the tree t, repeated as the parsed count y says
  pub record Counted (t : Tree) (y : Parsing Count) (x : Parsing Tree) : Type 0 where
    pub counts : is_found y ≡ true
    pub range : InRange (count_of y)
    pub beyond : rest_of x ≡ rest_of y
    pub opens : Alike (repeated (opened A t) (count_of y)) (opened A (tree_of x))

  counted_of : (t : Tree) (s : List ℕ) (x : Parsing Tree) (b : Bool) → repeats s ≡ b → x ≡ repeating b t s → is_found x ≡ true → Counted t (counted s) x
  unfolding then opened
  counted_of t s x true k e h = rw (counted_repeated s k) (by (repetition s) (repetition_says s) e)
    where
      by : (y : Parsing Count) → Says (Repeating s) (Here s) y → x ≡ then y (λ c r. found (times t c) r) → Counted t y x
      by (found c r) says e =
          subst (Counted t (found c r)) (sym e)
          (record { counts = refl; range = says.in_range; beyond = refl; opens = alike_by (repeated (opened A t) c) (repeated (opened A t) c) refl })
      by (fault n r) says e = not_found (ap is_found (sym e) ∙ h)
  counted_of t s x false k e h =
      rw (counted_plain s k)
      (subst (Counted t (found (between 1 1) s)) (sym e)
      (record { counts = refl; range = (omega arith, omega arith, omega arith); beyond = refl; opens = one_copy (opened A t) }))

  abbrev beyond_group : Tree → List ℕ → Parsing Tree
  beyond_group t s = repeating (repeats s) t s

  module _ (d at : ℕ) where
    module _ (h : PartAt A text m_piece d at) where
      piece_step : parse A m_piece d (drop at text) ≡ then (parse A m_group d (drop at text)) beyond_group
      unfolding step
      piece_step = parse_step A m_piece d (drop at text)

      pub group_found : PartAt A text m_group d at
      group_found = first_found A text m_group d at beyond_group (parse A m_piece d (drop at text)) piece_step h

      pub piece_counted : Counted (tree_at A text m_group d at) (counted (drop (end_at A text m_group d at) text)) (parse A m_piece d (drop at text))
      piece_counted =
          let s = drop (end_at A text m_group d at) text in
          counted_of (tree_at A text m_group d at) s (parse A m_piece d (drop at text)) (repeats s) refl
          (goes_on A text m_group d at beyond_group (parse A m_piece d (drop at text)) piece_step h (end_at A text m_group d at) refl)
          h

    -- a set, or an alternation in parentheses
    abbrev opening : Bool → Parsing Tree
    opening b = elim b [
      | true ↦ grouped (parse A m_alternation) d (drop at text)
      | false ↦ then (labelled_set A (drop at text)) (λ c s. found (set c) s)
    ]

    by_open : (b : Bool) → eqb (get_or text at 0) (code "(") ≡ b → parse A m_group d (drop at text) ≡ opening b
    unfolding step
    by_open b k = parse_step A m_group d (drop at text) ∙ ap opening (next_at "(" text at refl ∙ k)

  abbrev judged : List ℕ → Bool → Set → List ℕ → Parsing Set
  judged s b c r = elim b [ true ↦ fault refusal.Foreign s | false ↦ found c r ]

  abbrev labelled : List ℕ → Parsing Set → Parsing Tree
  labelled s y = then (then y (λ c r. judged s (eqb (labels_of A c) 0) c r)) (λ c r. found (set c) r)

  -- x is the parsed set y
  pub record IsSet (y : Parsing Set) (x : Parsing Tree) : Type 0 where
    pub there : is_found y ≡ true
    pub is : x ≡ found (set (set_of y)) (rest_of y)

  set_of_is : (s : List ℕ) (y : Parsing Set) → is_found (labelled s y) ≡ true → IsSet y (labelled s y)
  unfolding then
  set_of_is s (found c r) h = by (eqb (labels_of A c) 0) h
    where
      by : (b : Bool) → is_found (then (judged s b c r) (λ c r. found (set c) r)) ≡ true → IsSet (found c r) (then (judged s b c r) (λ c r. found (set c) r))
      by true h = not_found h
      by false h = record { there = refl; is = refl }
  set_of_is s (fault n r) h = not_found h

  pub group_set :
      (d at : ℕ) → PartAt A text m_group d at → (get_or text at 0 ≡ code "(" → ⊥) → IsSet (a_set (drop at text)) (parse A m_group d (drop at text))
  unfolding labelled_set
  group_set d at h k =
      let s = drop at text in
      let e : parse A m_group d s ≡ labelled s (a_set s) = by_open d at false (ne_eqb (get_or text at 0) (code "(") k) in
      subst (IsSet (a_set s)) (sym e) (set_of_is s (a_set s) (ap is_found (sym e) ∙ h))

  abbrev closing : Bool → Tree → List ℕ → Parsing Tree
  closing b t s = elim b [ true ↦ found (group t) (rest s) | false ↦ fault refusal.MisplacedSign s ]

  -- x is the content y in parentheses
  pub record Enclosed (y x : Parsing Tree) : Type 0 where
    pub inner : is_found y ≡ true
    pub tree : tree_of x ≡ group (tree_of y)
    pub end : place text (rest_of x) ≡ place text (rest_of y) + 1
    pub within : place text (rest_of y) < length text

  beyond_content : Tree → List ℕ → Parsing Tree
  beyond_content t s = closing (next ")" s) t s

  module _ (d at : ℕ) (x : Parsing Tree) (step_is : x ≡ then (parse A m_alternation d (drop at text)) beyond_content) (h : is_found x ≡ true) where
    enclosed_at : (i : ℕ) → i ≡ end_at A text m_alternation d at → Enclosed (parse A m_alternation d (drop at text)) x
    unfolding beyond_content
    enclosed_at i q = by (eqb (get_or text i 0) (code ")")) refl
      where
        here : (b : Bool) → eqb (get_or text i 0) (code ")") ≡ b → x ≡ closing b (tree_at A text m_alternation d at) (drop i text)
        here b k =
            goes_on A text m_alternation d at beyond_content x step_is h i q
            ∙ ap (λ b. closing b (tree_at A text m_alternation d at) (drop i text)) (next_at ")" text i refl ∙ k)

        by : (b : Bool) → eqb (get_or text i 0) (code ")") ≡ b → Enclosed (parse A m_alternation d (drop at text)) x
        by true k =
            let l : i < length text = byte_is text i 40 (eqb-true (get_or text i 0) (code ")") k) in
            record {
              inner = first_found A text m_alternation d at beyond_content x step_is h;
              tree = ap tree_of (here true k);
              end =
                  ap (λ z. place text (rest_of z)) (here true k) ∙ ap (place text) (rest_at text i) ∙ place_drop text (i + 1) (omega arith)
                  ∙ ap (λ n. n + 1) q;
              within = omega arith;
            }
        by false k = not_found (ap is_found (sym (here false k)) ∙ h)

  pub group_enclosed :
      (d at : ℕ) → PartAt A text m_group d at → get_or text at 0 ≡ code "("
      → (1 ≤ d) × Enclosed (parse A m_alternation (d - 1) (drop (at + 1) text)) (parse A m_group d (drop at text))
  unfolding grouped beyond_content
  group_enclosed zero at h k = not_found (ap is_found (sym (by_open zero at true (eq-eqb (get_or text at 0) (code "(") k))) ∙ h)
  group_enclosed (suc d) at h k =
      let less : suc d - 1 ≡ d = omega arith in
      let e : parse A m_group (suc d) (drop at text) ≡ then (parse A m_alternation d (drop (at + 1) text)) beyond_content =
      by_open (suc d) at true (eq-eqb (get_or text at 0) (code "(") k) ∙ ap (λ s. then (parse A m_alternation d s) beyond_content) (rest_at text at) in
      (omega arith, rw less (enclosed_at d (at + 1) (parse A m_group (suc d) (drop at text)) e h (end_at A text m_alternation d (at + 1)) refl))
