-- Parsing finds the tree of every text that has one; so a whole text is parsed to a tree exactly when it is a text of that tree.
use Rattle.std.proofs.Math.Path.{◌≡◌, refl, sym}
use Rattle.std.proofs.Common.{ap, ◌∙◌, arith}
use Rattle.std.specs.Prelude.{◌↔◌, Bool, true, false, ◌||◌, eqb}
use mathlib.Core.List.{List, [], ◌∷◌, ◌++◌, append_assoc, append-nil}
use Prim.Native.Nat.{ℕ, zero, suc, ◌≤◌}
use Prim.Native.Char.{code}
use Rattle.lists.proofs.OrderLaws.{or_neither}
use Rattle.refusal.specs.declared.Refusal.TheVariants as refusal
use Rattle.text.specs.Bytes.{bytes}
use Rattle.regex_tree.specs.Tree.{Count, Set, Tree, set, group, times, join, either, Words}
use Rattle.regex_tree.specs.Parsing.{Parsing, found, fault, then}
use Rattle.text.specs.Text.{one_of, next}
use Rattle.lists.specs.Cases.{first_of}
use Rattle.regex_tree.specs.Sets.{labelled_set}
use Rattle.regex_tree.specs.Repetition.{repeats, sign, repetition}
use Rattle.regex_tree.specs.Parse.{Mode, m_alternation, m_branch, m_piece, m_group, ends, grouped, step, rank, parse, whole, expression_of}
use Rattle.regex_tree.specs.Grammar.{loose, TextOf, WordsOf}
use Rattle.regex_tree.proofs.SaysLaws.{of_found, then_found}
use Rattle.regex_tree.proofs.OwnLaws.{of_one, Here}
use Rattle.regex_tree.proofs.OwnSetsLaws.{ASet, labelled_set_says}
use Rattle.regex_tree.proofs.OwnCountsLaws.{Repeating, repetition_says}
use Rattle.regex_tree.proofs.FrontLaws.{set_starts, text_starts, Front, Stop}
use Rattle.regex_tree.proofs.Sound.{parse_sound}
use Rattle.regex_tree.proofs.StepsLaws.{parse_step}

-- what may follow a part of an expression: after a branch `|`, `)` or the end, after an alternation `)` or the end
abbrev pub Follows : Mode → List ℕ → Type 0
Follows m_group w = Unit {0}
Follows m_piece w = repeats w ≡ false
Follows m_branch w = ends w ≡ true
Follows m_alternation w = (ends w ≡ true) × (next "|" w ≡ false)

end_not_repeats : (w : List ℕ) → ends w ≡ true → repeats w ≡ false
end_not_repeats [] e = refl
end_not_repeats (b ∷ w) e = of_one (λ c. one_of (bytes "*+?{") c ≡ false) (bytes "|)") b (refl, (refl, tt)) e

-- what is no repetition is no modifier
repeats_modifier : (w : List ℕ) → repeats w ≡ false → next "?" w ≡ false
repeats_modifier [] e = refl
repeats_modifier (b ∷ w) e =
    let e₁ = or_neither (eqb b (code "*")) _ e in
    let e₂ = or_neither (eqb b (code "+")) _ e₁.1 in
    (or_neither (eqb b (code "?")) (eqb b (code "{") || false) e₂.1).0

-- a repetition begins with one of its signs
sign_repeats : (s : List ℕ) (c : Count) (r : List ℕ) → sign s ≡ found c r → (w : List ℕ) → repeats (s ++ w) ≡ true
unfolding sign first_of
sign_repeats [] c r h w = let z : ◌≡◌ {A = ℕ} 0 1 = cc in absurd (omega arith)
sign_repeats (b ∷ s) c r h w = by (repeats (b ∷ s)) refl
  where
    by : (t : Bool) → repeats (b ∷ s) ≡ t → t ≡ true
    by true e = refl
    by false e =
        let e₁ = or_neither (eqb b (code "*")) _ e in
        let e₂ = or_neither (eqb b (code "+")) _ e₁.1 in
        let e₃ = or_neither (eqb b (code "?")) _ e₂.1 in
        let e₄ = or_neither (eqb b (code "{")) _ e₃.1 in
        let g : sign (b ∷ s) ≡ fault refusal.MisplacedSign (b ∷ s) = rw (e₁.0, sign) (rw (e₂.0, e₃.0, e₄.0)) in
        let z : ◌≡◌ {A = ℕ} 0 1 = cc in absurd (omega arith)

repetition_repeats : (s : List ℕ) (c : Count) (r : List ℕ) → repetition s ≡ found c r → (w : List ℕ) → repeats (s ++ w) ≡ true
unfolding repetition
repetition_repeats s c r h w = let g = then_found (sign s) _ c r h in sign_repeats s g.0 g.1 g.2 w

-- What is found in a mode is found in a looser one, if that may end there.
module _ (A : List ℕ) (d : ℕ) (s : List ℕ) (t : Tree) (w : List ℕ) where
  raise_piece : repeats w ≡ false → parse A m_group d s ≡ found t w → parse A m_piece d s ≡ found t w
  unfolding step then
  raise_piece k h = parse_step A m_piece d s ∙ rw (h, step) (rw (k, then))

  raise_branch : ends w ≡ true → parse A m_piece d s ≡ found t w → parse A m_branch d s ≡ found t w
  unfolding step then
  raise_branch k h = parse_step A m_branch d s ∙ rw (h, step) (rw (k, then))

  raise_alternation : next "|" w ≡ false → parse A m_branch d s ≡ found t w → parse A m_alternation d s ≡ found t w
  unfolding step then
  raise_alternation k h = parse_step A m_alternation d s ∙ rw (h, step) (rw (k, then))

  raise : (m m' : Mode) → rank m ≤ rank m' → Follows m' w → parse A m d s ≡ found t w → parse A m' d s ≡ found t w
  raise m_group m_group l k h = h
  raise m_group m_piece l k h = raise_piece k h
  raise m_group m_branch l k h = raise_branch k (raise_piece (end_not_repeats w k) h)
  raise m_group m_alternation l k h = raise_alternation k.1 (raise_branch k.0 (raise_piece (end_not_repeats w k.0) h))
  raise m_piece m_group l k h = absurd (omega arith)
  raise m_piece m_piece l k h = h
  raise m_piece m_branch l k h = raise_branch k h
  raise m_piece m_alternation l k h = raise_alternation k.1 (raise_branch k.0 h)
  raise m_branch m_group l k h = absurd (omega arith)
  raise m_branch m_piece l k h = absurd (omega arith)
  raise m_branch m_branch l k h = h
  raise m_branch m_alternation l k h = raise_alternation k.1 h
  raise m_alternation m_group l k h = absurd (omega arith)
  raise m_alternation m_piece l k h = absurd (omega arith)
  raise m_alternation m_branch l k h = absurd (omega arith)
  raise m_alternation m_alternation l k h = h

-- what may follow a looser part may follow a closer one
module _ (w : List ℕ) where
  follows_piece : (m : Mode) → 1 ≤ rank m → Follows m w → repeats w ≡ false
  follows_piece m_group l k = absurd (omega arith)
  follows_piece m_piece l k = k
  follows_piece m_branch l k = end_not_repeats w k
  follows_piece m_alternation l k = end_not_repeats w k.0

  follows_branch : (m : Mode) → 2 ≤ rank m → Follows m w → ends w ≡ true
  follows_branch m_group l k = absurd (omega arith)
  follows_branch m_piece l k = absurd (omega arith)
  follows_branch m_branch l k = k
  follows_branch m_alternation l k = k.0

  follows_alternation : (m : Mode) → 3 ≤ rank m → Follows m w → Follows m_alternation w
  follows_alternation m_group l k = absurd (omega arith)
  follows_alternation m_piece l k = absurd (omega arith)
  follows_alternation m_branch l k = absurd (omega arith)
  follows_alternation m_alternation l k = k

pub loose_most : (t : Tree) → loose t ≤ 3
loose_most (set c) = omega arith
loose_most (group r) = omega arith
loose_most (times r c) = omega arith
loose_most (join r s) = omega arith
loose_most (either r s) = omega arith

module _ (A : List ℕ) where
  set_parse : (c : Set) (d : ℕ) (u : List ℕ) → TextOf A d (set c) u → (w : List ℕ) → parse A m_group d (u ++ w) ≡ found (set c) w
  unfolding step then
  set_parse c d u h w =
      let a = of_found (ASet A u) (Here u) (labelled_set A u) c [] (labelled_set_says A u) h in
      let q : a.0.own ≡ u = sym (append-nil a.0.own) ∙ sym a.0.splits in
      let g : labelled_set A (u ++ w) ≡ found c w = (rw q at (a.0.alone tt w)) in
      parse_step A m_group d (u ++ w) ∙ rw ((set_starts A u c [] h w).1, step) (rw (g, then))

  repetition_parse : (v : List ℕ) (c : Count) → repetition v ≡ found c [] → (w : List ℕ) → repeats w ≡ false → repetition (v ++ w) ≡ found c w
  repetition_parse v c h w k =
      let a = of_found (Repeating v) (Here v) (repetition v) c [] (repetition_says v) h in
      let q : a.own ≡ v = sym (append-nil a.own) ∙ sym a.splits in
      rw q at (a.alone w (repeats_modifier w k))

  -- Before anything that may follow it, a text is parsed to its tree, and the rest is what follows.
  pub parse_text :
      (t : Tree) (d : ℕ) (s : List ℕ) → TextOf A d t s → (m : Mode) → loose t ≤ rank m → (w : List ℕ) → Follows m w → parse A m d (s ++ w) ≡ found t w
  unfolding step then grouped
  parse_text (set c) d s h m l w k = raise A d (s ++ w) (set c) w m_group m l k (set_parse c d s h w)
  parse_text (group r) zero s h m l w k = absurd h
  parse_text (group r) (suc d) s h m l w k =
      raise A (suc d) (s ++ w) (group r) w m_group m l k
      (let g = parse_text r d h.0 h.2 m_alternation (loose_most r) (code ")" ∷ w) (refl, refl) in
      parse_step A m_group (suc d) (s ++ w) ∙ rw (h.1, append_assoc h.0 (code ")" ∷ []) w, g) refl)
  parse_text (times r c) d s h m l w k =
      raise A d (s ++ w) (times r c) w m_piece m l k
      (let g = parse_text r d h.0 h.3 m_group h.4 (h.1 ++ w) tt in
      let f = repetition_parse h.1 c h.5 w (follows_piece w m l k) in
      parse_step A m_piece d (s ++ w)
      ∙ rw (h.2, append_assoc h.0 h.1 w, g) (rw (repetition_repeats h.1 c [] h.5 w, then) (rw (f, then))))
  parse_text (join r t) d s h m l w k =
      raise A d (s ++ w) (join r t) w m_branch m l k
      (let y = text_starts A t d h.1 h.5 w in
      let g = parse_text r d h.0 h.3 m_piece h.4 (h.1 ++ w) y.1 in
      let f = parse_text t d h.1 h.5 m_branch h.6 w (follows_branch w m l k) in
      parse_step A m_branch d (s ++ w) ∙ rw (h.2, append_assoc h.0 h.1 w, g) (rw (y.0, then) (rw (f, then))))
  parse_text (either r t) d s h m l w k =
      raise A d (s ++ w) (either r t) w m_alternation m l k
      (let g = parse_text r d h.0 h.3 m_branch h.4 (code "|" ∷ (h.1 ++ w)) refl in
      let f = parse_text t d h.1 h.5 m_alternation (loose_most t) w (follows_alternation w m l k) in
      parse_step A m_alternation d (s ++ w) ∙ rw (h.2, append_assoc h.0 (code "|" ∷ h.1) w, g) (rw (f, then)))

  follows_end : (m : Mode) → Follows m []
  follows_end m_group = tt
  follows_end m_piece = refl
  follows_end m_branch = refl
  follows_end m_alternation = (refl, refl)

  text_whole : (m : Mode) (d : ℕ) (s : List ℕ) (t : Tree) → TextOf A d t s → loose t ≤ rank m → parse A m d s ≡ found t []
  text_whole m d s t h l = ap (parse A m d) (sym (append-nil s)) ∙ parse_text t d s h m l [] (follows_end m)

  -- A whole text is parsed to the tree that it is a text of.
  pub parse_whole : (m : Mode) (d : ℕ) (s : List ℕ) (t : Tree) → (parse A m d s ≡ found t []) ↔ (TextOf A d t s × (loose t ≤ rank m))
  parse_whole m d s t =
      (λ e. by (of_found (Front A m d s) (Stop A m d s) (parse A m d s) t [] (parse_sound A m d s) e), λ h. text_whole m d s t h.0 h.1)
    where
      by : Front A m d s t [] → TextOf A d t s × (loose t ≤ rank m)
      by f = let q : f.front ≡ s = sym (append-nil f.front) ∙ sym f.splits in (rw q at f.text, f.close)

  -- it is a text of one tree only
  pub one_tree : (d : ℕ) (s : List ℕ) (t t' : Tree) → TextOf A d t s → TextOf A d t' s → t ≡ t'
  one_tree d s t t' h h' =
      let e = text_whole m_alternation d s t h (loose_most t) in
      let e' = text_whole m_alternation d s t' h' (loose_most t') in
      cc

  -- The parser and the grammar agree.
  pub exact : (s : List ℕ) (t : Tree) → (expression_of A s ≡ found t []) ↔ TextOf A 16 t s
  unfolding expression_of then whole
  exact s t = (
    λ e. ((parse_whole m_alternation 16 s t).0 (by (parse A m_alternation 16 s) e)).0,
    λ h. rw (text_whole m_alternation 16 s t h (loose_most t), expression_of) refl,
  )
    where
      by : (y : Parsing Tree) → then y whole ≡ found t [] → y ≡ found t []
      by (found t' []) e = e
      by (found t' (b ∷ s₂)) e = let z : ◌≡◌ {A = ℕ} 0 1 = cc in absurd (omega arith)
      by (fault n q) e = let z : ◌≡◌ {A = ℕ} 0 1 = cc in absurd (omega arith)

  -- The words of a text are those of its tree.
  pub words_of_text : (s : List ℕ) (t : Tree) → expression_of A s ≡ found t [] → (w : List ℕ) → WordsOf A s w ↔ Words A t w
  words_of_text s t e w = (λ h. rw (one_tree 16 s t h.0 ((exact s t).0 e) h.1) h.2, λ h. (t, (exact s t).0 e, h))

  -- an expression is parsed to its end
  pub expression_whole : (s : List ℕ) (t : Tree) (r : List ℕ) → expression_of A s ≡ found t r → r ≡ []
  unfolding expression_of whole
  expression_whole s t r e = let g = then_found (parse A m_alternation 16 s) whole t r e in by g.0 g.1 g.3
    where
      by : (t' : Tree) (s₁ : List ℕ) → whole t' s₁ ≡ found t r → r ≡ []
      by t' [] k = cc
      by t' (b ∷ s₂) k = let z : ◌≡◌ {A = ℕ} 0 1 = cc in absurd (omega arith)
