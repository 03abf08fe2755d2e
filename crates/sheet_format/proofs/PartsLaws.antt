-- Where the parts of a sheet are in its input, and how many costs it has: what a caller of `scan` relies on.
use Rattle.std.proofs.Math.Path.{◌≡◌, refl, subst}
use Rattle.std.proofs.Common.{ap, ◌∙◌, arith, length-append}
use Rattle.std.proofs.Math.Option.{Option, some, none}
use mathlib.Core.List.{List, [], ◌∷◌, flatten}
use Rattle.std.specs.Prelude.{Bool, true, false, ℕ, ◌+◌, ◌*◌, ◌≤◌, take, drop, eqb, leb}
use Rattle.std.proofs.Math.ListN.{length}
use Rattle.std.proofs.Math.Seq.{take-append_seam, drop-append-add}
use borrow.Author.Tests.{eqb-true, eq-eqb, leb-true}
use Rattle.lists.specs.Each.{all}
use Rattle.lists.proofs.OrderLaws.{and_left, and_right, and_both}
use Rattle.lists.specs.Cases.{provided}
use Rattle.text_lines.specs.Lines.{lines_of}
use Rattle.sheet_format.specs.Sheet.{every, column_of, Sheet, equal_columns, fitting, laid, sheet_from, most_bytes, sheet_of, width_or, matrix_of}
use Rattle.text_lines.proofs.LinesLaws.{FirstLine, lines_back}

-- where there is a result, the condition holds and the result was given
pub provided_back : {X : Type 0} (t : Bool) (x : Option X) (y : X) → provided t x ≡ some y → (t ≡ true) × (x ≡ some y)
unfolding provided
provided_back true x y e = (refl, e)
provided_back false x y e = let z : ◌≡◌ {A = ℕ} 0 1 = cc in absurd (omega arith)

-- a sheet by its lines
record Lines (input : List ℕ) (S : Sheet) : Type 0 where
  others : List (List ℕ)
  short : length input ≤ most_bytes
  are : lines_of input ≡ some (S.alphabet ∷ (S.text ∷ others))
  equal : equal_columns S.columns ≡ true
  few : length (flatten S.columns) ≤ 16384

-- equally long columns: the number of costs is the number of columns times the width
area : (w : ℕ) (cs : List (List ℕ)) → all (λ d. eqb (length d) w) cs ≡ true → length (flatten cs) ≡ length cs * w
unfolding flatten
area w [] e = omega arith
area w (c ∷ cs) e =
    let l = eqb-true (length c) w (and_left (eqb (length c) w) (all (λ d. eqb (length d) w) cs) e) in
    let h = area w cs (and_right (eqb (length c) w) (all (λ d. eqb (length d) w) cs) e) in
    let n = length-append c (flatten cs) in
    omega arith

equal_area : (other : ℕ) (cs : List (List ℕ)) → equal_columns cs ≡ true → length (flatten cs) ≡ length cs * width_or other cs
unfolding flatten
equal_area other [] e = omega arith
equal_area other (c ∷ cs) e = area (length c) (c ∷ cs) (and_both (eqb (length c) (length c)) (equal_columns (c ∷ cs)) (eq-eqb (length c) (length c) refl) e)

module _ (input : List ℕ) (S : Sheet) (is : sheet_of input ≡ some S) where
  lines : Lines input S
  unfolding sheet_of sheet_from laid
  lines =
      let p = provided_back (leb (length input) most_bytes) (sheet_from (lines_of input)) S is in
      by (leb-true (length input) most_bytes p.0) (lines_of input) refl p.1
    where
      columns :
          length input ≤ most_bytes → (a t : List ℕ) (ls : List (List ℕ)) → lines_of input ≡ some (a ∷ (t ∷ ls)) → (c : Option (List (List ℕ)))
          → laid a t c ≡ some S → Lines input S
      columns l a t ls q none e = let z : ◌≡◌ {A = ℕ} 0 1 = cc in absurd (omega arith)
      columns l a t ls q (some cs) e =
          let T : Sheet = record { alphabet = a; text = t; columns = cs } in
          let p = provided_back (fitting cs) (some T) S e in
          let same : T ≡ S = cc in
          subst (Lines input) same
          (record {
            others = ls;
            short = l;
            are = q;
            equal = and_left (equal_columns cs) (leb (length (flatten cs)) 16384) p.0;
            few = leb-true (length (flatten cs)) 16384 (and_right (equal_columns cs) (leb (length (flatten cs)) 16384) p.0);
          })

      by : length input ≤ most_bytes → (o : Option (List (List ℕ))) → lines_of input ≡ o → sheet_from o ≡ some S → Lines input S
      by l none q e = let z : ◌≡◌ {A = ℕ} 0 1 = cc in absurd (omega arith)
      by l (some []) q e = let z : ◌≡◌ {A = ℕ} 0 1 = cc in absurd (omega arith)
      by l (some (a ∷ [])) q e = let z : ◌≡◌ {A = ℕ} 0 1 = cc in absurd (omega arith)
      by l (some (a ∷ (t ∷ ls))) q e = columns l a t ls q (every column_of ls) e

  first : FirstLine input S.alphabet (S.text ∷ lines.others)
  first = lines_back input S.alphabet (S.text ∷ lines.others) lines.are

  second : FirstLine first.beyond S.text lines.others
  second = lines_back first.beyond S.text lines.others first.others

  -- the alphabet line, the expression line and their newlines are within the input
  pub sheet_within : length S.alphabet + 1 + length S.text + 1 ≤ length input
  sheet_within =
      let n = ap length first.splits ∙ length-append S.alphabet (10 ∷ first.beyond) in
      let m = ap length second.splits ∙ length-append S.text (10 ∷ second.beyond) in
      omega arith

  pub sheet_alphabet : take (length S.alphabet) input ≡ S.alphabet
  sheet_alphabet = ap (take (length S.alphabet)) first.splits ∙ take-append_seam S.alphabet (10 ∷ first.beyond)

  pub sheet_text : take (length S.text) (drop (length S.alphabet + 1) input) ≡ S.text
  sheet_text =
      ap (take (length S.text))
      (ap (drop (length S.alphabet + 1)) first.splits ∙ drop-append-add S.alphabet (10 ∷ first.beyond) 1 ∙ second.splits)
      ∙ take-append_seam S.text (10 ∷ second.beyond)

  pub sheet_costs : length (matrix_of S).costs ≤ 16384
  sheet_costs = lines.few

  pub sheet_area : length (matrix_of S).costs ≡ (matrix_of S).count * (matrix_of S).width
  sheet_area = equal_area (length S.alphabet + 1) S.columns lines.equal
