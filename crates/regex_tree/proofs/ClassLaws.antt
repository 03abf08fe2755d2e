-- What counts as a word of a set, and so of an ordinary character (document 02, T-07: a character "means all its labels"), of `[[:name:]]` and
-- of `[^[:name:]]` (T-01: "the POSIX set cut down to the alphabet"); and which names are known. For the reader: only examples use it.
use Rattle.std.proofs.Math.Path.{◌≡◌, refl}
use Rattle.std.proofs.Common.{sym, ap, ap₂, subst, ◌∙◌, arith, ne_eqb}
use Rattle.std.specs.Prelude.{◌↔◌, ◌⊎◌, Bool, not, eqb}
use Rattle.std.proofs.Math.Logic.{inl, inr}
use Rattle.std.proofs.Math.Option.{Option, some, none}
use mathlib.Core.List.{List, [], ◌∷◌, ◌++◌, flat_map}
use Rattle.std.proofs.Math.Bool.{true, false}
use Prim.Native.Nat.{ℕ}
use Rattle.lists.specs.Cases.{first_of, provided}
use Rattle.lists.specs.Each.{Each}
use Rattle.lists.specs.Lists.{Among, same_list, in_range}
use Rattle.lists.proofs.AmongLaws.{each_among}
use Rattle.lists.proofs.OrderLaws.{not_both, or_either, or_left}
use Rattle.lists.proofs.RangeLaws.{range_inside, range_true}
use Rattle.lists.proofs.SameLaws.{same_list_true, same_list_self}
use Rattle.refusal.specs.declared.Refusal.{Refusal}
use Rattle.refusal.specs.declared.Refusal.TheVariants as refusal
use Rattle.text.specs.Bytes.{bytes}
use Rattle.text.specs.Text.{next}
use Rattle.alphabet.specs.Labels.{Label, character}
use Rattle.regex_tree.specs.Tree.{Range, among, Set, only, except, set, HasLabel, Words}
use Rattle.regex_tree.specs.Letters.{labels_of}
use Rattle.regex_tree.specs.Parsing.{found, fault, then, enclosed}
use Rattle.regex_tree.specs.Classes.{classes, look_up, class_ranges}
use Rattle.regex_tree.specs.Sets.{closed, reserved, items, members, ranges_of, known, inside, bracket, alone, a_set, labelled_set}
use Rattle.regex_tree.specs.Parse.{m_alternation, m_branch, m_piece, m_group, step, parse, expression_of}
use Rattle.regex_tree.specs.Grammar.{TextOf, WordsOf}
use Rattle.regex_tree.proofs.StepsLaws.{parse_step}
use Rattle.regex_tree.proofs.Exact.{exact, one_tree}
use Rattle.regex_tree.proofs.LabelsLaws.{label_word, labelled}

-- A name is known exactly if it is one of the table.
module _ (n : List ℕ) where
  look_up_some : (cs : List (List ℕ × List Range)) (rs : List Range) → look_up cs n ≡ some rs → Among (n, rs) cs
  unfolding look_up
  look_up_some [] rs e = let z : ◌≡◌ {A = ℕ} 0 1 = cc in absurd (omega arith)
  look_up_some (c ∷ cs) rs e = by (same_list c.0 n) refl e (look_up_some cs rs)
    where
      by :
          (t : Bool) → same_list c.0 n ≡ t → ◌≡◌ {A = Option (List Range)} (elim t [ true ↦ some c.1 | false ↦ look_up cs n ]) (some rs) →
          (look_up cs n ≡ some rs → Among (n, rs) cs) → (◌≡◌ {A = List ℕ × List Range} (n, rs) c) ⊎ Among (n, rs) cs
      by true s k f = let p = same_list_true c.0 n s in let q : c.1 ≡ rs = cc in inl (ap₂ (λ (a : List ℕ) (b : List Range). (a, b)) (sym p) (sym q))
      by false s k f = inr (f k)

  look_up_none : (cs : List (List ℕ × List Range)) → look_up cs n ≡ none → (rs : List Range) → Among (n, rs) cs → ⊥
  unfolding look_up
  look_up_none [] e rs h = h
  look_up_none (c ∷ cs) e rs h = by (same_list c.0 n) refl e (λ k. look_up_none cs k rs) h
    where
      by :
          (t : Bool) → same_list c.0 n ≡ t → ◌≡◌ {A = Option (List Range)} (elim t [ true ↦ some c.1 | false ↦ look_up cs n ]) none →
          (look_up cs n ≡ none → Among (n, rs) cs → ⊥) → (◌≡◌ {A = List ℕ × List Range} (n, rs) c) ⊎ Among (n, rs) cs → ⊥
      by true s k f h = let z : ◌≡◌ {A = ℕ} 0 1 = cc in absurd (omega arith)
      by false s k f (inl q) = not_both (same_list c.0 n) (ap (λ x. same_list x.0 n) (sym q) ∙ same_list_self n) s
      by false s k f (inr q) = f k q

  pub class_known : (rs : List Range) → class_ranges n ≡ some rs → Among (n, rs) classes
  unfolding class_ranges
  class_known rs e = look_up_some classes rs e

  pub class_unknown : class_ranges n ≡ none → (rs : List Range) → Among (n, rs) classes → ⊥
  unfolding class_ranges
  class_unknown e rs h = look_up_none classes e rs h

-- The words of a text that is one set.
module _ (A s : List ℕ) (c : Set) (parsed : a_set s ≡ found c []) (no_group : next "(" s ≡ false) where
  -- without a label it is no expression
  none_parsed : (n : Refusal) (r : List ℕ) → labelled_set A s ≡ fault n r → (d : ℕ) → parse A m_alternation d s ≡ fault n r
  unfolding step then
  none_parsed n r e d =
      let g : parse A m_group d s ≡ fault n r = parse_step A m_group d s ∙ rw (no_group, step) (rw e) in
      let p : parse A m_piece d s ≡ fault n r = parse_step A m_piece d s ∙ rw (g, step) in
      let b : parse A m_branch d s ≡ fault n r = parse_step A m_branch d s ∙ rw (p, step) in
      parse_step A m_alternation d s ∙ rw (b, step)

  pub set_words : (w : List ℕ) → WordsOf A s w ↔ Words A (set c) w
  unfolding expression_of then
  set_words w = (λ h. by (eqb (labels_of A c) 0) refl h, λ h. (set c, text h, h))
    where
      text : Words A (set c) w → TextOf A 16 (set c) s
      text h = let l = (label_word A c).1 (w, h) in labelled A s c [] parsed ∙ rw (ne_eqb (labels_of A c) 0 (λ z. omega arith))

      by : (t : Bool) → eqb (labels_of A c) 0 ≡ t → WordsOf A s w → Words A (set c) w
      by true e h =
          let p = none_parsed refusal.Foreign s (labelled A s c [] parsed ∙ rw e) 16 in
          let q = (exact A s h.0).1 h.1 in
          let k : expression_of A s ≡ fault refusal.Foreign s = rw (p, expression_of) in
          let z : ◌≡◌ {A = ℕ} 0 1 = cc in absurd (omega arith)
      by false e h = let t : TextOf A 16 (set c) s = labelled A s c [] parsed ∙ rw e in subst (λ r. Words A r w) (one_tree A 16 s h.0 (set c) h.1 t) h.2

-- Each class of the table, by itself in a bracket, means its ranges, and complemented all other bytes.
abbrev between : List ℕ → List ℕ
between n = bytes "[[:" ++ (n ++ bytes ":]]")

abbrev complemented : List ℕ → List ℕ
complemented n = bytes "[^[:" ++ (n ++ bytes ":]]")

abbrev Means : List ℕ × List Range → Type 0
Means c = (a_set (between c.0) ≡ found (only c.1) []) × (a_set (complemented c.0) ≡ found (except c.1) [])

each_means : Each Means classes
unfolding classes look_up class_ranges then first_of enclosed provided flat_map closed reserved items members ranges_of known inside bracket a_set
each_means = (
  (refl, refl),
  ((refl, refl), ((refl, refl), ((refl, refl), ((refl, refl), ((refl, refl), ((refl, refl), ((refl, refl), ((refl, refl), ((refl, refl), ((refl, refl), ((refl, refl), tt))))))))))),
)

-- a word of one label
one_label : (A : List ℕ) (c : Set) (x : ℕ) → Words A (set c) (x ∷ []) ↔ HasLabel A c x
one_label A c x = (λ h. let e = h.2 in let q : x ≡ h.0 = cc in rw q h.1, λ h. (x, h, refl))

-- A text that is one ordinary character means all its labels and no others: a label is a word of it exactly if it has that character.
module _ (A s : List ℕ) (b : ℕ) (ordinary : a_set s ≡ found (alone b) []) (no_group : next "(" s ≡ false) (x : ℕ) where
  pub character_words : WordsOf A s (x ∷ []) ↔ (Label A x × (character A x ≡ b))
  character_words =
      let t = set_words A s (alone b) ordinary no_group (x ∷ []) in
      let o = one_label A (alone b) x in (
        λ h. let k = o.0 (t.0 h) in (k.0, same (character A x) (or_either (in_range b b (character A x)) false k.1)),
        λ h. t.1 (o.1 (h.0, rw h.1 (or_left (in_range b b b) false (range_inside b b b (omega arith) (omega arith))))),
      )
    where
      same : (y : ℕ) → (in_range b b y ≡ true) ⊎ (false ≡ true) → y ≡ b
      same y (inl e) = let k = range_true b b y e in omega (arith, k.0, k.1)
      same y (inr e) = let z : ◌≡◌ {A = ℕ} 0 1 = cc in absurd (omega arith)

module _ (A n : List ℕ) (rs : List Range) (class : class_ranges n ≡ some rs) (x : ℕ) where
  class_means : Means (n, rs)
  class_means = each_among Means (n, rs) classes each_means (class_known n rs class)

  -- A label is a word of `[[:name:]]` exactly if its character is in the class, and a word of `[^[:name:]]` exactly if it is not.
  pub class_words : WordsOf A (between n) (x ∷ []) ↔ (Label A x × (among rs (character A x) ≡ true))
  class_words =
      let s = set_words A (between n) (only rs) class_means.0 refl (x ∷ []) in
      let o = one_label A (only rs) x in
      (λ h. o.0 (s.0 h), λ h. s.1 (o.1 h))

  pub complement_words : WordsOf A (complemented n) (x ∷ []) ↔ (Label A x × (not (among rs (character A x)) ≡ true))
  complement_words =
      let s = set_words A (complemented n) (except rs) class_means.1 refl (x ∷ []) in
      let o = one_label A (except rs) x in
      (λ h. o.0 (s.0 h), λ h. s.1 (o.1 h))
