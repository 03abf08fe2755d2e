-- The signs of a bracket: what they are at the front of a text, how they are written up to the closing `]`, and that they are found from
-- those bytes alone, whatever follows them.
use Rattle.std.specs.Prelude.{◌≡◌, refl, Bool, true, not, ℕ, eqb}
use Rattle.std.proofs.Math.Path.{sym, ap}
use Rattle.std.proofs.Common.{◌∙◌, arith}
use Rattle.std.proofs.Math.Option.{Option, some, none}
use mathlib.Core.List.{List, [], ◌∷◌, ◌++◌, append_assoc, flat_map}
use Rattle.std.proofs.Math.Bool.{false}
use Prim.Native.Char.{code}
use borrow.Author.Tests.{eqb-true}
use Rattle.lists.proofs.OrderLaws.{and_left, and_right}
use Rattle.lists.specs.Cases.{provided}
use Rattle.text.specs.Bytes.{bytes}
use Rattle.text.specs.Text.{in_front}
use Rattle.regex_tree.specs.Sets.{Sign, byte, class, class_begins, class_ends, closes, closed, naming, sign_bytes}
use Rattle.regex_tree.proofs.FirstBytesLaws.{closed_here, closed_class, closed_byte, naming_here, naming_more}

-- What f finds in s are the signs that are written there up to the closing `]`, if the bytes of `front` are before them; it finds them
-- whatever follows.
pub record Written (f : List ℕ → Option (List Sign × List ℕ)) (front s : List ℕ) (x : List Sign × List ℕ) : Type 0 where
  pub own : List ℕ
  pub splits : s ≡ own ++ x.1
  pub alone : (v : List ℕ) → f (own ++ v) ≡ some (x.0, v)
  pub reads : front ++ own ≡ flat_map sign_bytes x.0 ++ (code "]" ∷ [])

abbrev pub Writes : (List ℕ → Option (List Sign × List ℕ)) → List ℕ → List ℕ → Option (List Sign × List ℕ) → Type 0
Writes f front s none = Unit {0}
Writes f front s (some x) = Written f front s x

closed_none : closed false [] ≡ none
unfolding closed
closed_none = refl

naming_none : (n : List ℕ) → naming n [] ≡ none
unfolding closed
naming_none n = refl

closing_byte : (first : Bool) (b : ℕ) → closes first b ≡ true → b ≡ code "]"
closing_byte first b e = eqb-true b (code "]") (and_right (not first) (eqb b (code "]")) e)

-- If g finds nothing in an empty text, what it finds in a text begins with its first byte.
own_first :
    (g : List ℕ → Option (List Sign × List ℕ)) (back : List ℕ) (c : ℕ) (s : List ℕ) (x : List Sign × List ℕ) (o : Written g back (c ∷ s) x) →
    g [] ≡ none → (u : List ℕ) × (o.own ≡ c ∷ u)
own_first g back c s x o h = by o.own o.splits o.alone
  where
    by : (l : List ℕ) → c ∷ s ≡ l ++ x.1 → ((v : List ℕ) → g (l ++ v) ≡ some (x.0, v)) → (u : List ℕ) × (l ≡ c ∷ u)
    by [] e a = let k = a [] in let z : ◌≡◌ {A = ℕ} 0 1 = cc in absurd (omega arith)
    by (d ∷ u) e a = let q : d ≡ c = cc in (u, ap (λ (i : ℕ). i ∷ u) q)

module _ (first : Bool) (b c : ℕ) (s : List ℕ) where
  -- the closing `]`
  here_written : (r : List ℕ) → closes first b ≡ true → b ≡ code "]" → Written (closed first) [] (b ∷ r) ([], r)
  unfolding flat_map
  here_written r e q = record { own = b ∷ []; splits = refl; alone = λ v. closed_here first b v e; reads = ap (λ (i : ℕ). i ∷ []) q }

  -- `[:`
  class_written :
      closes first b ≡ false → class_begins b c ≡ true → (y : Option (List Sign × List ℕ)) → Writes (naming []) (bytes "[:") s y →
      Writes (closed first) [] (b ∷ (c ∷ s)) y
  class_written e k none o = tt
  class_written e k (some x) o =
      let p : b ≡ code "[" = eqb-true b (code "[") (and_left (eqb b (code "[")) (eqb c (code ":")) k) in
      let q : c ≡ code ":" = eqb-true c (code ":") (and_right (eqb b (code "[")) (eqb c (code ":")) k) in
      record {
        own = b ∷ (c ∷ o.own);
        splits = ap (λ (l : List ℕ). b ∷ (c ∷ l)) o.splits;
        alone = λ v. closed_class first b c (o.own ++ v) e k ∙ o.alone v;
        reads = rw (p, q) o.reads;
      }

  -- a byte
  byte_written :
      closes first b ≡ false → class_begins b c ≡ false → (y : Option (List Sign × List ℕ)) → Writes (closed false) [] (c ∷ s) y →
      Writes (closed first) [] (b ∷ (c ∷ s)) (in_front (byte b) y)
  unfolding flat_map
  byte_written e k none o = tt
  byte_written e k (some x) o =
      let q = own_first (closed false) [] c s x o closed_none in
      record {
        own = b ∷ o.own;
        splits = ap (λ (l : List ℕ). b ∷ l) o.splits;
        alone = λ v.
            ap (λ (l : List ℕ). closed first (b ∷ (l ++ v))) q.1 ∙ closed_byte first b c (q.0 ++ v) e k
            ∙ ap (in_front (byte b)) (ap (λ (l : List ℕ). closed false (l ++ v)) (sym q.1) ∙ o.alone v);
        reads = ap (λ (l : List ℕ). b ∷ l) o.reads;
      }

module _ (n : List ℕ) (b c : ℕ) (s : List ℕ) where
  -- `:]`
  end_written :
      class_ends b c ≡ true → (y : Option (List Sign × List ℕ)) → Writes (closed false) [] s y →
      Writes (naming n) (bytes "[:" ++ n) (b ∷ (c ∷ s)) (in_front (class n) y)
  unfolding flat_map
  end_written e none o = tt
  end_written e (some x) o =
      let p : b ≡ code ":" = eqb-true b (code ":") (and_left (eqb b (code ":")) (eqb c (code "]")) e) in
      let q : c ≡ code "]" = eqb-true c (code "]") (and_right (eqb b (code ":")) (eqb c (code "]")) e) in
      record {
        own = b ∷ (c ∷ o.own);
        splits = ap (λ (l : List ℕ). b ∷ (c ∷ l)) o.splits;
        alone = λ v. naming_here n b c (o.own ++ v) e ∙ ap (in_front (class n)) (o.alone v);
        reads = rw (p, q) (ap (λ (l : List ℕ). bytes "[:" ++ (n ++ (bytes ":]" ++ l))) o.reads ∙ regroup (flat_map sign_bytes x.0));
      }
    where
      regroup :
          (l : List ℕ) →
          bytes "[:" ++ (n ++ (bytes ":]" ++ (l ++ (code "]" ∷ [])))) ≡ ((bytes "[:" ++ (n ++ bytes ":]")) ++ l) ++ (code "]" ∷ [])
      regroup l =
          ap (λ (k : List ℕ). bytes "[:" ++ k)
          (sym (append_assoc n (bytes ":]") (l ++ (code "]" ∷ []))) ∙ sym (append_assoc (n ++ bytes ":]") l (code "]" ∷ [])))

  -- a byte of the name
  name_written :
      class_ends b c ≡ false → (y : Option (List Sign × List ℕ)) → Writes (naming (n ++ (b ∷ []))) (bytes "[:" ++ (n ++ (b ∷ []))) (c ∷ s) y →
      Writes (naming n) (bytes "[:" ++ n) (b ∷ (c ∷ s)) y
  name_written e none o = tt
  name_written e (some x) o =
      let q = own_first (naming (n ++ (b ∷ []))) _ c s x o (naming_none (n ++ (b ∷ []))) in
      record {
        own = b ∷ o.own;
        splits = ap (λ (l : List ℕ). b ∷ l) o.splits;
        alone = λ v.
            ap (λ (l : List ℕ). naming n (b ∷ (l ++ v))) q.1 ∙ naming_more n b c (q.0 ++ v) e
            ∙ (ap (λ (l : List ℕ). naming (n ++ (b ∷ [])) (l ++ v)) (sym q.1) ∙ o.alone v);
        reads = ap (λ (l : List ℕ). bytes "[:" ++ l) (sym (append_assoc n (b ∷ []) o.own)) ∙ o.reads;
      }

mutual
  unfolding closed provided

  pub closed_written : (first : Bool) (s : List ℕ) → Writes (closed first) [] s (closed first s)
  closed_written first [] = tt
  closed_written first (b ∷ []) = last (closes first b) refl
    where
      last : (t : Bool) → closes first b ≡ t → Writes (closed first) [] (b ∷ []) (provided t (some ([], [])))
      last true e = here_written first b 0 [] [] e (closing_byte first b e)
      last false e = tt
  closed_written first (b ∷ (c ∷ s)) =
      by (closes first b) refl (class_begins b c) refl (naming_written [] s) (closed_written false (c ∷ s))
    where
      by :
          (t : Bool) → closes first b ≡ t → (u : Bool) → class_begins b c ≡ u → Writes (naming []) (bytes "[:") s (naming [] s) →
          Writes (closed false) [] (c ∷ s) (closed false (c ∷ s)) →
          Writes (closed first) [] (b ∷ (c ∷ s)) (elim t [
            | true ↦ some ([], c ∷ s)
            | false ↦ elim u [ true ↦ naming [] s | false ↦ in_front (byte b) (closed false (c ∷ s)) ]
          ])
      by true e u k h i = here_written first b c s (c ∷ s) e (closing_byte first b e)
      by false e true k h i = class_written first b c s e k (naming [] s) h
      by false e false k h i = byte_written first b c s e k (closed false (c ∷ s)) i

  naming_written : (n s : List ℕ) → Writes (naming n) (bytes "[:" ++ n) s (naming n s)
  naming_written n [] = tt
  naming_written n (b ∷ []) = tt
  naming_written n (b ∷ (c ∷ s)) = by (class_ends b c) refl (closed_written false s) (naming_written (n ++ (b ∷ [])) (c ∷ s))
    where
      by :
          (t : Bool) → class_ends b c ≡ t → Writes (closed false) [] s (closed false s) →
          Writes (naming (n ++ (b ∷ []))) (bytes "[:" ++ (n ++ (b ∷ []))) (c ∷ s) (naming (n ++ (b ∷ [])) (c ∷ s)) →
          Writes (naming n) (bytes "[:" ++ n) (b ∷ (c ∷ s)) (elim t [
            | true ↦ in_front (class n) (closed false s)
            | false ↦ naming (n ++ (b ∷ [])) (c ∷ s)
          ])
      by true e h i = end_written n b c s e (closed false s) h
      by false e h i = name_written n b c s e (naming (n ++ (b ∷ [])) (c ∷ s)) i
