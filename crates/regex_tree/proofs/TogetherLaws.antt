-- Texts put together: neither what follows an expression's text nor more room for groups changes its tree, `r|s` means the words of r or
-- of s, and the modifier `?` means nothing.
-- For the reader: nothing uses it.
use Rattle.std.specs.Prelude.{◌≡◌, refl, ◌↔◌, ◌⊎◌, List, [], ◌∷◌, ◌++◌, false, ℕ, zero, suc, ◌≤◌}
use Rattle.std.proofs.Math.Logic.{⊎_map}
use mathlib.Core.Logic.Iff.{rfl as iff_rfl, symm as iff_symm, trans as iff_trans}
use Rattle.std.proofs.Common.{inl, inr, ⊎_elim, append_assoc, arith}
use Prim.Native.Char.{code}
use Rattle.regex_tree.specs.Tree.{Count, Tree, set, group, times, join, either, Words}
use Rattle.regex_tree.specs.Parsing.{found}
use Rattle.regex_tree.specs.Repetition.{repeats, sign}
use Rattle.regex_tree.specs.Parse.{Mode, m_piece, parse, expression_of}
use Rattle.regex_tree.specs.Grammar.{loose, TextOf, WordsOf}
use Rattle.regex_tree.proofs.OwnCountsLaws.{repetition_with, repetition_without}
use Rattle.regex_tree.proofs.Exact.{Follows, parse_text, parse_whole, exact, words_of_text}

module _ (A : List ℕ) where
  pub roomier : (t : Tree) (d e : ℕ) → d ≤ e → (s : List ℕ) → TextOf A d t s → TextOf A e t s
  roomier (set c) d e l s h = h
  roomier (group r) zero e l s h = absurd h
  roomier (group r) (suc d) zero l s h = absurd (omega arith)
  roomier (group r) (suc d) (suc e) l s h = (h.0, h.1, roomier r d e (omega arith) h.0 h.2)
  roomier (times r c) d e l s h = (h.0, h.1, h.2, roomier r d e l h.0 h.3, h.4, h.5)
  roomier (join r t) d e l s h = (h.0, h.1, h.2, roomier r d e l h.0 h.3, h.4, roomier t d e l h.1 h.5, h.6)
  roomier (either r t) d e l s h = (h.0, h.1, h.2, roomier r d e l h.0 h.3, h.4, roomier t d e l h.1 h.5)

  -- A text that is parsed whole gives the same tree where at least as many groups may be opened, before anything that may follow: a branch
  -- before `|`, `)` and the end, an alternation before `)` and the end.
  pub parse_in_front :
      (m : Mode) (d e : ℕ) → d ≤ e → (s : List ℕ) (t : Tree) → parse A m d s ≡ found t [] → (w : List ℕ) → Follows m w →
      parse A m e (s ++ w) ≡ found t w
  parse_in_front m d e l s t h w k = let g = (parse_whole A m d s t).0 h in parse_text A t e s (roomier t d e l s g.0) m g.1 w k

-- The alternation of r, itself perhaps an alternation, and s: the tree of `r|s`, since alternations nest to the right.
abbrev pub beside : Tree → Tree → Tree
beside (set c) s = either (set c) s
beside (group r) s = either (group r) s
beside (times r c) s = either (times r c) s
beside (join r t) s = either (join r t) s
beside (either r t) s = either r (beside t s)

either_iff : {X X' Y Y' : Type 0} → X ↔ X' → Y ↔ Y' → (X ⊎ Y) ↔ (X' ⊎ Y')
either_iff f g = (⊎_map f.0 g.0, ⊎_map f.1 g.1)

regroup : {X Y Z : Type 0} → (X ⊎ (Y ⊎ Z)) ↔ ((X ⊎ Y) ⊎ Z)
regroup = (⊎_elim (λ x. inl (inl x)) (⊎_map inr (λ z. z)), ⊎_elim (⊎_map (λ x. x) inl) (λ z. inr (inr z)))

module _ (A : List ℕ) where
  beside_text : (d : ℕ) (t q : Tree) (u v : List ℕ) → TextOf A d t u → TextOf A d q v → TextOf A d (beside t q) (u ++ (code "|" ∷ v))
  beside_text d (set c) q u v h g = (u, v, refl, h, omega arith, g)
  beside_text d (group r) q u v h g = (u, v, refl, h, omega arith, g)
  beside_text d (times r c) q u v h g = (u, v, refl, h, omega arith, g)
  beside_text d (join r t) q u v h g = (u, v, refl, h, omega arith, g)
  beside_text d (either r t) q u v h g =
      (h.0, h.1 ++ (code "|" ∷ v), rw (h.2, append_assoc h.0 (code "|" ∷ h.1) (code "|" ∷ v)), h.3, h.4, beside_text d t q h.1 v h.5 g)

  beside_words : (t q : Tree) (w : List ℕ) → Words A (beside t q) w ↔ (Words A t w ⊎ Words A q w)
  beside_words (set c) q w = iff_rfl
  beside_words (group r) q w = iff_rfl
  beside_words (times r c) q w = iff_rfl
  beside_words (join r t) q w = iff_rfl
  beside_words (either r t) q w = iff_trans (either_iff iff_rfl (beside_words t q w)) regroup

  -- Where r and s are expressions, so is `r|s`, and its words are those of r or of s.
  pub alternation :
      (r s : List ℕ) (t q : Tree) → expression_of A r ≡ found t [] → expression_of A s ≡ found q [] →
      (expression_of A (r ++ (code "|" ∷ s)) ≡ found (beside t q) [])
      × ((w : List ℕ) → WordsOf A (r ++ (code "|" ∷ s)) w ↔ (WordsOf A r w ⊎ WordsOf A s w))
  alternation r s t q h g =
      let e = (exact A (r ++ (code "|" ∷ s)) (beside t q)).1 (beside_text 16 t q r s ((exact A r t).0 h) ((exact A s q).0 g)) in (
        e,
        λ w. iff_trans (words_of_text A (r ++ (code "|" ∷ s)) (beside t q) e w)
            (iff_trans (beside_words t q w) (either_iff (iff_symm (words_of_text A r t h w)) (iff_symm (words_of_text A s q g w)))),
      )

  -- One `?` after a repetition leaves the tree unaltered, and so its set of words, and the rest of the text.
  pub modifier :
      (d : ℕ) (t : Tree) (u : List ℕ) → TextOf A d t u → loose t ≤ 0 → (v : List ℕ) (c : Count) → sign v ≡ found c [] →
      (w : List ℕ) → repeats w ≡ false →
      (parse A m_piece d (u ++ (v ++ w)) ≡ found (times t c) w) × (parse A m_piece d (u ++ (v ++ (code "?" ∷ w))) ≡ found (times t c) w)
  modifier d t u h l v c e w k =
      let v' = v ++ (code "?" ∷ []) in
      let g = parse_text A (times t c) d (u ++ v) (u, v, refl, h, l, repetition_without v c e) m_piece (omega arith) w k in
      let g' = parse_text A (times t c) d (u ++ v') (u, v', refl, h, l, repetition_with v c e) m_piece (omega arith) w k in
      (rw append_assoc at g, (simp append_assoc at g'))
