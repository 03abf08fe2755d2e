-- Laws of pieces and lines: what the first of them is, by the first separator.
use Rattle.std.proofs.Math.Path.{◌≡◌, refl, ap}
use Rattle.std.proofs.Common.{sym, ◌∙◌, inl, inr, ⊎_elim, arith, ne_eqb, eq-eqb}
use Rattle.std.proofs.Math.Option.{Option, some, none}
use mathlib.Core.List.{List, [], ◌∷◌, ◌++◌, append-nil}
use Rattle.std.specs.Prelude.{Bool, cond, ◌&&◌, ◌||◌, ◌⊎◌, ℕ, ◌<◌, ◌≤◌, length, eqb}
use Rattle.std.proofs.Math.Bool.{true, false, not, or-false, or_assoc}
use Rattle.lists.specs.Lists.{any}
use Rattle.lists.proofs.OrderLaws.{eq_or_ne}
use Rattle.text_lines.specs.Lines.{Free, onto, pieces, both, closed, lines_of}

-- Pieces.

-- every text has a first piece
pub record Some (c : ℕ) (s : List ℕ) : Type 0 where
  pub first : List ℕ
  pub others : List (List ℕ)
  pub is : pieces c s ≡ first ∷ others

onto_some : (b : ℕ) (ps : List (List ℕ)) → (q : List ℕ) × (qs : List (List ℕ)) × (onto b ps ≡ q ∷ qs)
unfolding onto
onto_some b [] = (b ∷ [], [], refl)
onto_some b (p ∷ ps) = (b ∷ p, ps, refl)

pub some_piece : (c : ℕ) (s : List ℕ) → Some c s
unfolding pieces
some_piece c [] = record { first = []; others = []; is = refl }
some_piece c (b ∷ s) = by (eqb b c) refl
  where
    by : (t : Bool) → eqb b c ≡ t → Some c (b ∷ s)
    by true e = record { first = []; others = pieces c s; is = rw e }
    by false e = let o = onto_some b (pieces c s) in record { first = o.0; others = o.1; is = rw e o.2 }

-- a text without separators put before the first piece
unfoldable pub ahead : List ℕ → List (List ℕ) → List (List ℕ)
ahead p [] = p ∷ []
ahead p (q ∷ qs) = (p ++ q) ∷ qs

ahead_onto : (b : ℕ) (p : List ℕ) (ps : List (List ℕ)) → onto b (ahead p ps) ≡ ahead (b ∷ p) ps
unfolding ahead onto
ahead_onto b p [] = refl
ahead_onto b p (q ∷ qs) = refl

pub pieces_ahead : (c : ℕ) (p s : List ℕ) → Free c p → pieces c (p ++ s) ≡ ahead p (pieces c s)
unfolding ahead pieces
pieces_ahead c [] s f = by (some_piece c s)
  where
    by : Some c s → pieces c s ≡ ahead [] (pieces c s)
    by o = rw o.is
pieces_ahead c (b ∷ p) s f = rw (ne_eqb b c f.0, pieces_ahead c p s f.1) (ahead_onto b p (pieces c s))

-- the first piece ends at the first separator
pub pieces_end : (c : ℕ) (p s : List ℕ) → Free c p → pieces c (p ++ (c ∷ s)) ≡ p ∷ pieces c s
unfolding ahead pieces
pieces_end c p s f = pieces_ahead c p (c ∷ s) f ∙ rw (eq-eqb c c refl, append-nil)

-- Lines.

closed_more : (p : List ℕ) (c : ℕ) (s : List ℕ) → closed (p ∷ pieces c s) ≡ both (some p) (closed (pieces c s))
unfolding closed
closed_more p c s = let o = some_piece c s in rw o.is

-- the first line ends at the first newline
pub lines_end : (p s : List ℕ) → Free 10 p → lines_of (p ++ (10 ∷ s)) ≡ both (some p) (lines_of s)
lines_end p s f = ap closed (pieces_end 10 p s f) ∙ closed_more p 10 s

-- the beginning of a line put before the first line
unfoldable pub longer : List ℕ → Option (List (List ℕ)) → Option (List (List ℕ))
longer p none = none
longer p (some []) = none
longer p (some (l ∷ ls)) = some ((p ++ l) ∷ ls)

longer_both : (p q : List ℕ) (o : Option (List (List ℕ))) → both (some (p ++ q)) o ≡ longer p (both (some q) o)
unfolding longer both
longer_both p q none = refl
longer_both p q (some ls) = refl

closed_ahead : (a : ℕ) (p : List ℕ) (ps : List (List ℕ)) → closed (ahead (a ∷ p) ps) ≡ longer (a ∷ p) (closed ps)
unfolding closed ahead longer
closed_ahead a p [] = refl
closed_ahead a p ([] ∷ []) = refl
closed_ahead a p ((b ∷ q) ∷ []) = refl
closed_ahead a p (q ∷ (r ∷ ps)) = longer_both (a ∷ p) q (closed (r ∷ ps))

pub lines_longer : (a : ℕ) (p s : List ℕ) → Free 10 (a ∷ p) → lines_of ((a ∷ p) ++ s) ≡ longer (a ∷ p) (lines_of s)
lines_longer a p s f = ap closed (pieces_ahead 10 (a ∷ p) s f) ∙ closed_ahead a p (pieces 10 s)

-- a line without its newline is not a list of lines
pub lines_open : (p : List ℕ) → 0 < length p → Free 10 p → lines_of p ≡ none
unfolding longer closed pieces
lines_open [] l f = absurd (omega arith)
lines_open (a ∷ p) l f = ap lines_of (sym (append-nil (a ∷ p))) ∙ lines_longer a p [] f

pub lines_none : lines_of [] ≡ some []
unfolding closed pieces
lines_none = refl

-- a text whose lines are known begins with the first of them
pub record FirstLine (s l : List ℕ) (ls : List (List ℕ)) : Type 0 where
  pub beyond : List ℕ
  pub splits : s ≡ l ++ (10 ∷ beyond)
  pub others : lines_of beyond ≡ some ls

pub lines_back : (s l : List ℕ) (ls : List (List ℕ)) → lines_of s ≡ some (l ∷ ls) → FirstLine s l ls
unfolding longer both
lines_back [] l ls e = let n = lines_none in let z : ◌≡◌ {A = ℕ} 0 1 = cc in absurd (omega arith)
lines_back (b ∷ s) l ls e =
    ⊎_elim (λ q. ends (lines_of s) refl q (sym (ap (λ a. lines_of (a ∷ s)) q ∙ lines_end [] s tt) ∙ e))
    (λ q. goes_on (lines_of s) (lines_back s) (sym (lines_longer b [] s (q, tt)) ∙ e)) (eq_or_ne b 10)
  where
    ends : (o : Option (List (List ℕ))) → lines_of s ≡ o → b ≡ 10 → both (some []) o ≡ some (l ∷ ls) → FirstLine (b ∷ s) l ls
    ends none p q h = let z : ◌≡◌ {A = ℕ} 0 1 = cc in absurd (omega arith)
    ends (some ms) p q h =
        let k : [] ≡ l = cc in
        let m : ms ≡ ls = cc in
        record { beyond = s; splits = ap (λ a. a ∷ s) q ∙ ap (λ x. x ++ (10 ∷ s)) k; others = p ∙ ap some m }

    goes_on :
        (o : Option (List (List ℕ))) → ((m : List ℕ) (ms : List (List ℕ)) → o ≡ some (m ∷ ms) → FirstLine s m ms)
        → longer (b ∷ []) o ≡ some (l ∷ ls) → FirstLine (b ∷ s) l ls
    goes_on none ih h = let z : ◌≡◌ {A = ℕ} 0 1 = cc in absurd (omega arith)
    goes_on (some []) ih h = let z : ◌≡◌ {A = ℕ} 0 1 = cc in absurd (omega arith)
    goes_on (some (m ∷ ms)) ih h =
        let k : b ∷ m ≡ l = cc in
        let n : ms ≡ ls = cc in
        let f = ih m ms refl in
        record {
          beyond = f.beyond;
          splits = ap (λ x. b ∷ x) f.splits ∙ ap (λ x. x ++ (10 ∷ f.beyond)) k;
          others = f.others ∙ ap some n;
        }

-- the first piece is the whole text, or a separator follows it
abbrev pub Leads : ℕ → List ℕ → List ℕ → Type 0
Leads c p s = (s ≡ p) ⊎ ((r : List ℕ) × (s ≡ p ++ (c ∷ r)))

pub piece_back : (c : ℕ) (s p : List ℕ) (ps : List (List ℕ)) → pieces c s ≡ p ∷ ps → Leads c p s
unfolding pieces onto
piece_back c [] p ps e = inl cc
piece_back c (b ∷ s) p ps e =
    let o = some_piece c s in ⊎_elim ends (λ n. goes_on n o (piece_back c s o.first o.others o.is)) (eq_or_ne b c)
  where
    ends : b ≡ c → Leads c p (b ∷ s)
    ends q =
        let h : [] ∷ pieces c s ≡ p ∷ ps = rw (eq-eqb b c q) at e in
        let k : [] ≡ p = cc in
        inr (s, ap (λ a. a ∷ s) q ∙ ap (λ x. x ++ (c ∷ s)) k)

    goes_on : (b ≡ c → ⊥) → (o : Some c s) → Leads c o.first s → Leads c p (b ∷ s)
    goes_on n o l =
        let h : (b ∷ o.first) ∷ o.others ≡ p ∷ ps = rw (ne_eqb b c n, o.is) at e in
        let k : b ∷ o.first ≡ p = cc in
        ⊎_elim (λ q. inl (ap (λ x. b ∷ x) q ∙ k)) (λ r. inr (r.0, ap (λ x. b ∷ x) r.1 ∙ ap (λ x. x ++ (c ∷ r.0)) k)) l

-- a text that is not empty has a line
pub some_line : (s : List ℕ) → 1 ≤ length s → lines_of s ≡ some [] → ⊥
unfolding both longer
some_line [] l e = omega arith
some_line (b ∷ s) l e = ⊎_elim ends goes_on (eq_or_ne b 10)
  where
    both_some : (o : Option (List (List ℕ))) → both (some []) o ≡ some [] → ⊥
    both_some none q = let z : ◌≡◌ {A = ℕ} 0 1 = cc in omega arith
    both_some (some ls) q = let z : ◌≡◌ {A = ℕ} 0 1 = cc in omega arith

    longer_some : (o : Option (List (List ℕ))) → longer (b ∷ []) o ≡ some [] → ⊥
    longer_some none q = let z : ◌≡◌ {A = ℕ} 0 1 = cc in omega arith
    longer_some (some []) q = let z : ◌≡◌ {A = ℕ} 0 1 = cc in omega arith
    longer_some (some (l ∷ ls)) q = let z : ◌≡◌ {A = ℕ} 0 1 = cc in omega arith

    ends : b ≡ 10 → ⊥
    ends q = both_some (lines_of s) (sym (ap (λ a. lines_of (a ∷ s)) q ∙ lines_end [] s tt) ∙ e)

    goes_on : (b ≡ 10 → ⊥) → ⊥
    goes_on q = longer_some (lines_of s) (sym (lines_longer b [] s (q, tt)) ∙ e)

-- The bytes of the lines are those of the text that are no newline.
module _ (p : ℕ → Bool) where
  any_onto : (b : ℕ) (ps : List (List ℕ)) → any (any p) (onto b ps) ≡ (p b || any (any p) ps)
  unfolding onto
  any_onto b [] = ap (λ t. t || false) (or-false (p b))
  any_onto b (q ∷ ps) = or_assoc (p b) (any p q) (any (any p) ps)

  any_pieces : (c : ℕ) (s : List ℕ) → any (any p) (pieces c s) ≡ any (λ b. not (eqb b c) && p b) s
  unfolding pieces
  any_pieces c [] = refl
  any_pieces c (b ∷ s) = by (eqb b c) (any_pieces c s)
    where
      by :
          (t : Bool) → any (any p) (pieces c s) ≡ any (λ b. not (eqb b c) && p b) s
          → any (any p) (cond t ([] ∷ pieces c s) (onto b (pieces c s))) ≡ ((not t && p b) || any (λ b. not (eqb b c) && p b) s)
      by true e = e
      by false e = any_onto b (pieces c s) ∙ ap (λ t. p b || t) e

  any_closed : (ps ls : List (List ℕ)) → closed ps ≡ some ls → any (any p) ps ≡ any (any p) ls
  unfolding closed both
  any_closed [] ls e = let z : ◌≡◌ {A = ℕ} 0 1 = cc in absurd (omega arith)
  any_closed ([] ∷ []) ls e = let q : [] ≡ ls = cc in ap (any (any p)) q
  any_closed ((b ∷ r) ∷ []) ls e = let z : ◌≡◌ {A = ℕ} 0 1 = cc in absurd (omega arith)
  any_closed (r ∷ (q ∷ ps)) ls e = by (closed (q ∷ ps)) (any_closed (q ∷ ps)) e
    where
      by :
          (o : Option (List (List ℕ))) → ((ms : List (List ℕ)) → o ≡ some ms → any (any p) (q ∷ ps) ≡ any (any p) ms)
          → both (some r) o ≡ some ls → any (any p) (r ∷ (q ∷ ps)) ≡ any (any p) ls
      by none ih h = let z : ◌≡◌ {A = ℕ} 0 1 = cc in absurd (omega arith)
      by (some ms) ih h = let k : r ∷ ms ≡ ls = cc in ap (λ t. any p r || t) (ih ms refl) ∙ ap (any (any p)) k

  pub lines_any : (s : List ℕ) (ls : List (List ℕ)) → lines_of s ≡ some ls → any (any p) ls ≡ any (λ b. not (eqb b 10) && p b) s
  lines_any s ls e = sym (any_closed (pieces 10 s) ls e) ∙ any_pieces 10 s
