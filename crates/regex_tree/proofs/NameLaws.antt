-- The name of a class is what is before the nearest `:]` (document 02, T-01): a class is read as its name, whatever the bytes of the name
-- are, if no `:]` is in them; and `[:` without `:]` after it is never closed. For the reader: nothing uses it.
use Rattle.std.specs.Prelude.{◌≡◌, refl, List, [], ◌∷◌, ◌++◌, Bool, true, false, not, ◌&&◌, ℕ, eqb}
use Rattle.std.proofs.Common.{ap, ◌∙◌, append-nil, append_assoc}
use Rattle.std.proofs.Math.Option.{none}
use Rattle.std.proofs.Math.Bool.{and-false}
use Prim.Native.Char.{code}
use Rattle.std.proofs.lemmas.Bool.{not-true}
use Rattle.lists.proofs.OrderLaws.{and_left, and_right}
use Rattle.text.specs.Bytes.{bytes}
use Rattle.text.specs.Text.{in_front}
use Rattle.regex_tree.specs.Sets.{class, class_ends, closes, closed, naming}
use Rattle.regex_tree.proofs.FirstBytesLaws.{closed_class, naming_here, naming_more}

-- no `:]` is in it
abbrev pub no_end : List ℕ → Bool
no_end [] = true
no_end (b ∷ []) = true
no_end (b ∷ (c ∷ n)) = not (class_ends b c) && no_end (c ∷ n)

naming_named : (m n t : List ℕ) → no_end n ≡ true → naming m (n ++ (bytes ":]" ++ t)) ≡ in_front (class (m ++ n)) (closed false t)
naming_named m [] t e = naming_here m (code ":") (code "]") t refl ∙ rw (append-nil m)
naming_named m (b ∷ []) t e =
    naming_more m b (code ":") (code "]" ∷ t) (and-false (eqb b (code ":")))
    ∙ naming_here (m ++ (b ∷ [])) (code ":") (code "]") t refl
naming_named m (b ∷ (c ∷ n)) t e =
    naming_more m b c (n ++ (bytes ":]" ++ t)) (not-true (class_ends b c) (and_left (not (class_ends b c)) (no_end (c ∷ n)) e))
    ∙ naming_named (m ++ (b ∷ [])) (c ∷ n) t (and_right (not (class_ends b c)) (no_end (c ∷ n)) e)
    ∙ ap (λ (k : List ℕ). in_front (class k) (closed false t)) (append_assoc m (b ∷ []) (c ∷ n))

naming_open : (m s : List ℕ) → no_end s ≡ true → naming m s ≡ none
unfolding closed
naming_open m [] e = refl
naming_open m (b ∷ []) e = refl
naming_open m (b ∷ (c ∷ s)) e =
    naming_more m b c s (not-true (class_ends b c) (and_left (not (class_ends b c)) (no_end (c ∷ s)) e))
    ∙ naming_open (m ++ (b ∷ [])) (c ∷ s) (and_right (not (class_ends b c)) (no_end (c ∷ s)) e)

module _ (first : Bool) where
  opens : closes first (code "[") ≡ false
  opens = and-false (not first)

  pub class_read : (n t : List ℕ) → no_end n ≡ true → closed first (bytes "[:" ++ (n ++ (bytes ":]" ++ t))) ≡ in_front (class n) (closed false t)
  class_read n t e = closed_class first (code "[") (code ":") (n ++ (bytes ":]" ++ t)) opens refl ∙ naming_named [] n t e

  pub class_open : (s : List ℕ) → no_end s ≡ true → closed first (bytes "[:" ++ s) ≡ none
  class_open s e = closed_class first (code "[") (code ":") s opens refl ∙ naming_open [] s e
