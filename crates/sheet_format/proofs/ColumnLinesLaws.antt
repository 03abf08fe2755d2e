-- Laws of the columns that the rest of a sheet holds: by its first line, and by its first cost.
use Rattle.std.specs.Prelude.{◌≡◌, refl, List, [], ◌∷◌, ◌++◌, cond, ◌⊎◌, ℕ, ◌<◌, length, eqb}
use Rattle.std.proofs.Common.{sym, ap, ◌∙◌, append_assoc, append-nil, inl, inr, ⊎_elim, arith}
use Rattle.std.proofs.Math.Option.{Option, some, none}
use Rattle.lists.proofs.EachLaws.{each_append}
use Rattle.lists.proofs.OrderLaws.{eq_or_ne}
use Rattle.text_lines.specs.Lines.{Free, pieces, both, closed, lines_of}
use Rattle.text_lines.proofs.LinesLaws.{Some, some_piece, ahead, pieces_ahead, pieces_end, lines_end, longer, lines_longer, FirstLine, lines_back, piece_back}
use Rattle.sheet_format.specs.Sheet.{every, cost_of, column_of}
use Rattle.sheet_format.specs.ColumnLines.{columns_of, columns_in}

-- a cost put before the first column
unfoldable pub beside : Option ℕ → Option (List (List ℕ)) → Option (List (List ℕ))
beside none o = none
beside (some v) none = none
beside (some v) (some []) = none
beside (some v) (some (c ∷ cs)) = some ((v ∷ c) ∷ cs)

both_none : {A : Type 0} (x : Option A) → both x none ≡ none
unfolding both
both_none none = refl
both_none (some a) = refl

pub columns_in_end : columns_in [] ≡ some []
unfolding columns_of closed pieces every
columns_in_end = refl

-- the first line is the first column
pub columns_in_line : (p s : List ℕ) → Free 10 p → columns_in (p ++ (10 ∷ s)) ≡ both (column_of p) (columns_in s)
unfolding columns_of both every
columns_in_line p s f = ap columns_of (lines_end p s f) ∙ by (lines_of s)
  where
    by : (o : Option (List (List ℕ))) → columns_of (both (some p) o) ≡ both (column_of p) (columns_of o)
    by none = sym (both_none (column_of p))
    by (some ls) = refl

-- a line of one cost
pub column_one : (p : List ℕ) → Free 32 p → column_of p ≡ both (cost_of p) (some [])
unfolding column_of every ahead pieces
column_one p f = ap (every cost_of) (ap (pieces 32) (sym (append-nil p)) ∙ pieces_ahead 32 p [] f ∙ ap (λ q. q ∷ []) (append-nil p))

-- a line's first cost ends at the first space
column_more : (p l : List ℕ) → Free 32 p → column_of (p ++ (32 ∷ l)) ≡ both (cost_of p) (column_of l)
unfolding column_of every
column_more p l f = ap (every cost_of) (pieces_end 32 p l f)

beside_both : (x : Option ℕ) (y : Option (List ℕ)) (z : Option (List (List ℕ))) → both (both x y) z ≡ beside x (both y z)
unfolding both beside
beside_both none y z = refl
beside_both (some v) none z = refl
beside_both (some v) (some c) none = refl
beside_both (some v) (some c) (some cs) = refl

beside_none : (x : Option ℕ) → beside x none ≡ none
unfolding beside
beside_none none = refl
beside_none (some v) = refl

beside_nothing : (x : Option ℕ) → beside x (some []) ≡ none
unfolding beside
beside_nothing none = refl
beside_nothing (some v) = refl

free_snoc : (p : List ℕ) → Free 10 p → Free 10 (p ++ (32 ∷ []))
free_snoc p f = each_append (λ b. b ≡ 10 → ⊥) p (32 ∷ []) f (λ e. omega arith, tt)

-- a space follows the first cost
pub columns_in_space : (p s : List ℕ) → Free 10 p → Free 32 p → columns_in (p ++ (32 ∷ s)) ≡ beside (cost_of p) (columns_in s)
unfolding columns_of longer every
columns_in_space p s f g =
    ap columns_of (ap lines_of (sym (append_assoc p (32 ∷ []) s)) ∙ front p f) ∙ by (lines_of s)
  where
    front : (p : List ℕ) → Free 10 p → lines_of ((p ++ (32 ∷ [])) ++ s) ≡ longer (p ++ (32 ∷ [])) (lines_of s)
    front [] f = lines_longer 32 [] s (free_snoc [] f)
    front (a ∷ p) f = lines_longer a (p ++ (32 ∷ [])) s (free_snoc (a ∷ p) f)

    by : (o : Option (List (List ℕ))) → columns_of (longer (p ++ (32 ∷ [])) o) ≡ beside (cost_of p) (columns_of o)
    by none = sym (beside_none (cost_of p))
    by (some []) = sym (beside_nothing (cost_of p))
    by (some (l ∷ ls)) =
        ap (λ q. both (column_of q) (every column_of ls)) (append_assoc p (32 ∷ []) l)
        ∙ ap (λ q. both q (every column_of ls)) (column_more p l g)
        ∙ beside_both (cost_of p) (column_of l) (every column_of ls)

both_front : {A : Type 0} (x : Option A) (o : Option (List A)) (ys : List A) → both x o ≡ some ys → (y : A) × (x ≡ some y)
unfolding both
both_front none o ys e = let z : ◌≡◌ {A = ℕ} 0 1 = cc in absurd (omega arith)
both_front (some a) o ys e = (a, refl)

-- a rest that has a column begins with a cost and a separator
pub record FirstCost (s : List ℕ) : Type 0 where
  pub text : List ℕ
  pub cost : ℕ
  pub separator : ℕ
  pub beyond : List ℕ
  pub splits : s ≡ text ++ (separator ∷ beyond)
  pub is_cost : cost_of text ≡ some cost
  pub is_separator : (separator ≡ 32) ⊎ (separator ≡ 10)

pub columns_in_back : (s c : List ℕ) (cs : List (List ℕ)) → columns_in s ≡ some (c ∷ cs) → FirstCost s
unfolding columns_of column_of every
columns_in_back s c cs e = by (lines_of s) refl e
  where
    first : (l : List ℕ) (ls : List (List ℕ)) → FirstLine s l ls → Some 32 l → (d : List ℕ) → column_of l ≡ some d → FirstCost s
    first l ls f o d h =
        let g : both (cost_of o.first) (every cost_of o.others) ≡ some d = ap (every cost_of) (sym o.is) ∙ h in
        let x = both_front (cost_of o.first) (every cost_of o.others) d g in
        ⊎_elim
        (λ q.
        record {
          text = o.first;
          cost = x.0;
          separator = 10;
          beyond = f.beyond;
          splits = f.splits ∙ ap (λ t. t ++ (10 ∷ f.beyond)) q;
          is_cost = x.1;
          is_separator = inr refl;
        })
        (λ r.
        record {
          text = o.first;
          cost = x.0;
          separator = 32;
          beyond = r.0 ++ (10 ∷ f.beyond);
          splits = f.splits ∙ ap (λ t. t ++ (10 ∷ f.beyond)) r.1 ∙ append_assoc o.first (32 ∷ r.0) (10 ∷ f.beyond);
          is_cost = x.1;
          is_separator = inl refl;
        })
        (piece_back 32 l o.first o.others o.is)

    by : (o : Option (List (List ℕ))) → lines_of s ≡ o → columns_of o ≡ some (c ∷ cs) → FirstCost s
    by none q h = let z : ◌≡◌ {A = ℕ} 0 1 = cc in absurd (omega arith)
    by (some []) q h = let z : ◌≡◌ {A = ℕ} 0 1 = cc in absurd (omega arith)
    by (some (l ∷ ls)) q h =
        let x = both_front (column_of l) (every column_of ls) (c ∷ cs) h in
        first l ls (lines_back s l ls q) (some_piece 32 l) x.0 x.1

-- the columns that begin with a cost, by its separator b and the columns after that
abbrev pub put : Option ℕ → ℕ → Option (List (List ℕ)) → Option (List (List ℕ))
put x b o = cond (eqb b 10) (both (both x (some [])) o) (beside x o)

pub columns_in_put :
    (p : List ℕ) (b : ℕ) (s : List ℕ) → Free 10 p → Free 32 p → (b ≡ 32) ⊎ (b ≡ 10) → columns_in (p ++ (b ∷ s)) ≡ put (cost_of p) b (columns_in s)
columns_in_put p b s f g (inl e) = rw e (columns_in_space p s f g)
columns_in_put p b s f g (inr e) = rw e (columns_in_line p s f ∙ ap (λ c. both c (columns_in s)) (column_one p g))

-- a rest that is not empty does not give the empty list of columns
both_some : {A : Type 0} (x : Option A) (o : Option (List A)) → both x o ≡ some [] → ⊥
unfolding both
both_some none o e = let z : ◌≡◌ {A = ℕ} 0 1 = cc in omega arith
both_some (some a) none e = let z : ◌≡◌ {A = ℕ} 0 1 = cc in omega arith
both_some (some a) (some bs) e = let z : ◌≡◌ {A = ℕ} 0 1 = cc in omega arith

pub columns_in_some : (s : List ℕ) → 0 < length s → columns_in s ≡ some [] → ⊥
unfolding columns_of longer every
columns_in_some [] l e = absurd (omega arith)
columns_in_some (b ∷ s) l e =
    ⊎_elim (λ q. both_some (column_of []) (columns_in s) (sym (line q) ∙ e))
    (λ q. by (lines_of s) (sym (ap columns_of (lines_longer b [] s (q, tt))) ∙ e)) (eq_or_ne b 10)
  where
    line : b ≡ 10 → columns_in (b ∷ s) ≡ both (column_of []) (columns_in s)
    line q = ap (λ a. columns_in (a ∷ s)) q ∙ columns_in_line [] s tt

    by : (o : Option (List (List ℕ))) → columns_of (longer (b ∷ []) o) ≡ some [] → ⊥
    by none e = let z : ◌≡◌ {A = ℕ} 0 1 = cc in omega arith
    by (some []) e = let z : ◌≡◌ {A = ℕ} 0 1 = cc in omega arith
    by (some (l ∷ ls)) e = both_some (column_of (b ∷ l)) (every column_of ls) e
