-- The sheet that an input is, by the ends of its first two lines and the columns after them: a lemma for each return of `scan`.
use Rattle.std.specs.Prelude.{◌≡◌, ◌⊎◌, ℕ, ◌+◌, ◌-◌, ◌<◌, ◌≤◌, length, drop, Some, None}
use Rattle.std.proofs.Math.Path.{refl, ap}
use Rattle.std.proofs.Common.{sym, ◌∙◌, inl, inr, arith, le-leb}
use Rattle.std.proofs.Math.Option.{Option, some, none}
use mathlib.Core.List.{List, []}
use Rattle.std.proofs.Math.Bool.{true}
use Rattle.std.proofs.Math.Logic.{⊎_elim}
use Rattle.std.proofs.lemmas.Bool.{lt-leb}
use Rattle.lists.proofs.OrderLaws.{eq_or_ne, true_or_false}
use Rattle.lists.specs.Memory.{written}
use Rattle.lists.specs.Cases.{provided}
use Rattle.text_lines.specs.Lines.{both, lines_of}
use Rattle.sheet_format.specs.Sheet.{Sheet, fitting, laid, sheet_from, most_bytes, sheet_of, width_or, matrix_of}
use Rattle.sheet_format.specs.ColumnLines.{columns_of, columns_in}
use Rattle.text_lines.specs.Places.{part, LineEnd}
use Rattle.text_lines.proofs.PlacesLaws.{part_length, lines_at, line_unclosed, lines_past}
use Rattle.sheet_columns.specs.Matrices.{StoredMatrix}
use Rattle.sheet_scan.specs.Answers.{answer_of, Scans}

-- the input ends, and no line is left
lines_short :
    (input : List ℕ) (at e : ℕ) → LineEnd input at e → e ≡ length input
    → (lines_of (drop at input) ≡ none) ⊎ (lines_of (drop at input) ≡ some [])
lines_short input at e h l =
    let f = h.from in
    ⊎_elim (λ q. inr (lines_past input at (omega arith))) (λ q. inl (line_unclosed input at e h (omega arith) (omega arith))) (eq_or_ne at e)

-- No sheet.

pub scans_bad : (input before after : List ℕ) → sheet_of input ≡ none → length after ≡ length before → Scans input before after None
scans_bad input before after e n =
    record {
      answer = sym (ap answer_of e);
      costs = λ S h. let z : ◌≡◌ {A = ℕ} 0 1 = cc in absurd (omega arith);
      size = n;
    }

pub sheet_long : (input : List ℕ) → most_bytes < length input → sheet_of input ≡ none
unfolding sheet_of provided
sheet_long input l = rw (lt-leb (length input) most_bytes l)

module _ (input : List ℕ) (l : length input ≤ most_bytes) where
  sheet_from_is : sheet_of input ≡ sheet_from (lines_of input)
  unfolding sheet_of provided
  sheet_from_is = rw (le-leb (length input) most_bytes l)

  pub sheet_no_line : (a : ℕ) → LineEnd input 0 a → a ≡ length input → sheet_of input ≡ none
  unfolding sheet_from
  sheet_no_line a h e = sheet_from_is ∙ ⊎_elim (λ q. ap sheet_from q) (λ q. ap sheet_from q) (lines_short input 0 a h e)

  module _ (a : ℕ) (h : LineEnd input 0 a) (al : a < length input) where
    first_line : sheet_of input ≡ sheet_from (both (some (part 0 a input)) (lines_of (drop (a + 1) input)))
    first_line = sheet_from_is ∙ ap sheet_from (lines_at input 0 a h al)

    pub sheet_one_line : (e : ℕ) → LineEnd input (a + 1) e → e ≡ length input → sheet_of input ≡ none
    unfolding sheet_from both
    sheet_one_line e k q =
        first_line
        ∙ ⊎_elim (λ o. ap (λ x. sheet_from (both (some (part 0 a input)) x)) o) (λ o. ap (λ x. sheet_from (both (some (part 0 a input)) x)) o)
        (lines_short input (a + 1) e k q)

    module _ (e : ℕ) (k : LineEnd input (a + 1) e) (el : e < length input) where
      both_lines : sheet_of input ≡ laid (part 0 a input) (part (a + 1) e input) (columns_in (drop (e + 1) input))
      unfolding sheet_from both laid columns_of
      both_lines =
          first_line ∙ ap (λ x. sheet_from (both (some (part 0 a input)) x)) (lines_at input (a + 1) e k el) ∙ by (lines_of (drop (e + 1) input))
        where
          by :
              (o : Option (List (List ℕ)))
              → sheet_from (both (some (part 0 a input)) (both (some (part (a + 1) e input)) o))
              ≡ laid (part 0 a input) (part (a + 1) e input) (columns_of o)
          by none = refl
          by (some ls) = refl

      module _ (before after : List ℕ) where
        pub sheet_unfit : StoredMatrix (a + 1) input (e + 1) before after None → sheet_of input ≡ none
        unfolding laid provided
        sheet_unfit s = both_lines ∙ by (columns_in (drop (e + 1) input)) s.0
          where
            by :
                (o : Option (List (List ℕ))) → ((cs : List (List ℕ)) → o ≡ some cs → fitting cs ≡ true → ⊥)
                → laid (part 0 a input) (part (a + 1) e input) o ≡ none
            by none s = refl
            by (some cs) s = ⊎_elim (λ t. absurd (s cs refl t)) (λ t. rw t) (true_or_false (fitting cs))

        module _ (w n : ℕ) (s : StoredMatrix (a + 1) input (e + 1) before after (Some (record { width = w; count = n }))) where
          abbrev whole : Sheet
          whole = record { alphabet = part 0 a input; text = part (a + 1) e input; columns = s.columns }

          is_sheet : sheet_of input ≡ some whole
          unfolding laid provided
          is_sheet = both_lines ∙ ap (laid (part 0 a input) (part (a + 1) e input)) s.are ∙ rw s.fits

          pub scans_sheet : length after ≡ length before → Scans input before after (Some (record { alphabet = a; text = e - (a + 1); width = w; count = n }))
          scans_sheet size =
              let i : sheet_of input ≡ some whole = is_sheet in
              let p : length (part 0 a input) ≡ a = part_length input 0 a h.from h.within ∙ omega arith in
              let q : length (part (a + 1) e input) ≡ e - (a + 1) = part_length input (a + 1) e k.from k.within in
              let v : w ≡ width_or (length (part 0 a input) + 1) s.columns = s.is_width ∙ ap (λ i. width_or (i + 1) s.columns) (sym p) in
              record {
                answer = cc;
                costs = λ S f. let t : whole ≡ S = cc in s.memory ∙ ap (λ T. written (matrix_of T).costs before) t;
                size = size;
              }
