-- Principles of the loop that reads a text byte by byte: the lines that are closed, what has been read of the next one, and what is left make
-- the whole text.
use Rattle.std.specs.Prelude.{ℕ, ◌+◌, ◌<◌, ◌≤◌, ◌≡◌, refl, length, get_or, drop}
use Rattle.std.proofs.Math.Path.{sym, ap}
use Rattle.std.proofs.Common.{◌∙◌, arith}
use Rattle.std.proofs.Math.Option.{Option, some, none}
use mathlib.Core.List.{List, [], ◌∷◌, ◌++◌, append_assoc, append-nil}
use borrow.Author.Tests.{eq-eqb, ne_eqb}
use Rattle.lists.proofs.EachLaws.{drop_here, drop_all}
use Rattle.text_lines.specs.Lines.{onto, pieces, both, closed, lines_of}
use Rattle.text_lines.proofs.LinesLaws.{Some, some_piece, ahead}

-- the lines ws are closed, u has been read of the next one, and the bytes from place i on are left
abbrev pub Read : (s : List ℕ) (i : ℕ) (ws : List (List ℕ)) (u : List ℕ) → Type 0
Read s i ws u = pieces 10 s ≡ ws ++ ahead u (pieces 10 (drop i s))

pub read_none : (s : List ℕ) → Read s 0 [] []
unfolding ahead
read_none s = by (some_piece 10 s)
  where
    by : Some 10 s → pieces 10 s ≡ ahead [] (pieces 10 s)
    by o = rw o.is

ahead_line : (u : List ℕ) (ps : List (List ℕ)) → ahead u ([] ∷ ps) ≡ u ∷ ps
unfolding ahead
ahead_line u ps = ap (λ v. v ∷ ps) (append-nil u)

ahead_byte : (u : List ℕ) (b : ℕ) (ps : List (List ℕ)) → ahead u (onto b ps) ≡ ahead (u ++ (b ∷ [])) ps
unfolding ahead onto
ahead_byte u b [] = refl
ahead_byte u b (p ∷ ps) = ap (λ v. v ∷ ps) (sym (append_assoc u (b ∷ []) p))

module _ (s : List ℕ) (i : ℕ) (ws : List (List ℕ)) (u : List ℕ) where
  -- a newline closes the line
  pub read_line : i < length s → get_or s i 0 ≡ 10 → Read s i ws u → Read s (i + 1) (ws ++ (u ∷ [])) []
  unfolding pieces
  read_line l e h =
      let rest = pieces 10 (drop (i + 1) s) in
      let here : pieces 10 (drop i s) ≡ [] ∷ rest = rw (drop_here 0 s i l, eq-eqb (get_or s i 0) 10 e) in
      h ∙ ap (λ ps. ws ++ ahead u ps) here ∙ ap (λ ps. ws ++ ps) (ahead_line u rest)
      ∙ sym (append_assoc ws (u ∷ []) rest)
      ∙ ap (λ ps. (ws ++ (u ∷ [])) ++ ps) (read_none (drop (i + 1) s))

  -- any other byte goes on with it
  pub read_byte : i < length s → (get_or s i 0 ≡ 10 → ⊥) → Read s i ws u → Read s (i + 1) ws (u ++ (get_or s i 0 ∷ []))
  unfolding pieces
  read_byte l e h =
      let here : pieces 10 (drop i s) ≡ onto (get_or s i 0) (pieces 10 (drop (i + 1) s)) = rw (drop_here 0 s i l, ne_eqb (get_or s i 0) 10 e) in
      h ∙ ap (λ ps. ws ++ ahead u ps) here ∙ ap (λ ps. ws ++ ps) (ahead_byte u (get_or s i 0) (pieces 10 (drop (i + 1) s)))

both_back : (p : List ℕ) (o : Option (List (List ℕ))) (ls : List (List ℕ)) → both (some p) o ≡ some ls → (vs : List (List ℕ)) × (o ≡ some vs) × (p ∷ vs ≡ ls)
unfolding both
both_back p none ls e = let z : ◌≡◌ {A = ℕ} 0 1 = cc in absurd (omega arith)
both_back p (some vs) ls e = (vs, refl, cc)

-- the last piece is empty, and the others are the lines
closed_last : (ws : List (List ℕ)) (u : List ℕ) (ls : List (List ℕ)) → closed (ws ++ (u ∷ [])) ≡ some ls → (u ≡ []) × (ws ≡ ls)
unfolding closed
closed_last [] [] ls e = (refl, cc)
closed_last [] (b ∷ u) ls e = let z : ◌≡◌ {A = ℕ} 0 1 = cc in absurd (omega arith)
closed_last (p ∷ []) u ls e =
    let r = both_back p (closed (u ∷ [])) ls e in
    let q = closed_last [] u r.0 r.1 in
    (q.0, ap (◌∷◌ p) q.1 ∙ r.2)
closed_last (p ∷ (q ∷ ws)) u ls e =
    let r = both_back p (closed (q ∷ (ws ++ (u ∷ [])))) ls e in
    let y = closed_last (q ∷ ws) u r.0 r.1 in
    (y.0, ap (◌∷◌ p) y.1 ∙ r.2)

-- at the end of a text that has lines, all of them are closed
pub read_all :
    (s : List ℕ) (i : ℕ) (ws : List (List ℕ)) (u : List ℕ) (ls : List (List ℕ)) → length s ≤ i → Read s i ws u → lines_of s ≡ some ls
    → (u ≡ []) × (ws ≡ ls)
unfolding pieces
read_all s i ws u ls l h e =
    closed_last ws u ls
    (sym (ap closed (h ∙ ap (λ r. ws ++ ahead u (pieces 10 r)) (drop_all s i l) ∙ ap (λ ps. ws ++ ps) (ahead_line u []))) ∙ e)
