-- The columns from a place of the input on, by the cost at the place and the columns after its separator. Without a cost no column begins
-- there.
use Rattle.std.specs.Prelude.{◌≡◌, List, [], ◌∷◌, ◌++◌, true, ◌⊎◌, ℕ, ◌+◌, ◌-◌, ◌<◌, length, get_or, take, drop, eqb, Some, None}
use Rattle.std.proofs.Common.{sym, ap, ◌∙◌, inl, inr, ⊎_elim, arith, length-append, length-drop, get_or-drop, eqb-true, eq-eqb}
use Rattle.std.proofs.Math.Option.{some}
use Rattle.std.proofs.Math.Seq.{take-append_seam, get_or-append_seam}
use Rattle.lists.proofs.EachLaws.{drop_here}
use Rattle.lists.proofs.OrderLaws.{and_left, and_right, or_either, or_left, or_right}
use Rattle.text.specs.Digits.{digits, digit}
use Rattle.sheet_format.specs.Sheet.{cost_of}
use Rattle.sheet_format.proofs.CostLaws.{cost_exactly}
use Rattle.sheet_format.proofs.ColumnLinesLaws.{FirstCost, columns_in_back, put, columns_in_put}
use Rattle.text_lines.specs.Lines.{Free}
use Rattle.sheet_format.specs.ColumnLines.{columns_in}
use Rattle.text_lines.specs.Places.{part}
use Rattle.text_lines.proofs.PlacesLaws.{part_rest}
use Rattle.sheet_number.specs.Items.{separator, CostAt, ReadCost}
use Rattle.sheet_number.specs.DigitsLaws.{digit_range, numeral_back}
use Rattle.sheet_number.specs.CostsLaws.{cost_begins}

digits_free : (c : ℕ) (p : List ℕ) → c < 48 → digits p ≡ true → Free c p
digits_free c [] l h = tt
digits_free c (b ∷ p) l h = (
  (λ e. let r = digit_range b (and_left (digit b) (digits p) h) in omega arith),
  digits_free c p l (and_right (digit b) (digits p) h),
)

-- no byte of a cost is a separator
cost_free : (c : ℕ) (p : List ℕ) (v : ℕ) → c < 45 → cost_of p ≡ some v → Free c p
cost_free c p v l h = ⊎_elim (λ b. rw b.0 (λ q. omega arith, tt)) (λ n. digits_free c p (omega arith) (numeral_back p v n).are) ((cost_exactly p v).0 h)

separator_is : (b : ℕ) → separator b ≡ true → (b ≡ 32) ⊎ (b ≡ 10)
separator_is b s = ⊎_elim (λ k. inl (eqb-true b 32 k)) (λ k. inr (eqb-true b 10 k)) (or_either (eqb b 32) (eqb b 10) s)

is_separator : (b : ℕ) → (b ≡ 32) ⊎ (b ≡ 10) → separator b ≡ true
is_separator b (inl e) = or_left (eqb b 32) (eqb b 10) (eq-eqb b 32 e)
is_separator b (inr e) = or_right (eqb b 32) (eqb b 10) (eq-eqb b 10 e)

pub cost_columns :
    (input : List ℕ) (at v e : ℕ) → ReadCost input at (Some (record { value = v; end = e }))
    → columns_in (drop at input) ≡ put (some v) (get_or input e 0) (columns_in (drop (e + 1) input))
cost_columns input at v e h =
    let f = cost_begins input at e v h in
    let p = part at e input in
    let b = get_or input e 0 in
    let s : drop at input ≡ p ++ (b ∷ drop (e + 1) input) =
    part_rest input at e (omega arith) ∙ ap (λ r. p ++ r) (drop_here 0 input e h.within) in
    ap columns_in s
    ∙ columns_in_put p b (drop (e + 1) input) (cost_free 10 p v (omega arith) h.is) (cost_free 32 p v (omega arith) h.is) (separator_is b h.ends)
    ∙ ap (λ x. put x b (columns_in (drop (e + 1) input))) h.is

first_cost : (input : List ℕ) (at : ℕ) (f : FirstCost (drop at input)) → CostAt input at (at + length f.text) f.cost
first_cost input at f =
    let k : at + length f.text - at ≡ length f.text = omega arith in
    let rest = f.separator ∷ f.beyond in
    let n = ap length f.splits ∙ length-append f.text rest in
    let m = length-drop at input in
    let b : get_or input (at + length f.text) 0 ≡ f.separator =
    sym (get_or-drop at input (length f.text) 0)
    ∙ ap (λ s. get_or s (length f.text) 0) f.splits
    ∙ get_or-append_seam f.text f.separator f.beyond 0 in
    let p : part at (at + length f.text) input ≡ f.text =
    ap (λ j. take j (drop at input)) k ∙ ap (take (length f.text)) f.splits ∙ take-append_seam f.text rest in
    record {
      is = rw p f.is_cost;
      within = omega arith;
      ends = rw b (is_separator f.separator f.is_separator);
    }

pub no_column :
    (input : List ℕ) (at : ℕ) → ReadCost input at None → (c : List ℕ) (cs : List (List ℕ)) → columns_in (drop at input) ≡ some (c ∷ cs) → ⊥
no_column input at n c cs e = let f = columns_in_back (drop at input) c cs e in n (at + length f.text) f.cost (first_cost input at f)
