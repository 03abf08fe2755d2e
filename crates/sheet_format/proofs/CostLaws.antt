-- A text is a cost exactly if it is a lone `-`, which means a barred label, or a number.
use Rattle.std.proofs.Math.Path.{◌≡◌, refl, ap}
use Rattle.std.proofs.Common.{sym, ◌∙◌, ⊎_elim, arith}
use Rattle.std.proofs.Math.Option.{some, none}
use Rattle.std.specs.Prelude.{List, [], ◌∷◌, Bool, ◌⊎◌, ◌↔◌, ℕ}
use Rattle.std.proofs.Math.Bool.{true, false, cond}
use Rattle.std.proofs.Math.Logic.{inl, inr}
use Prim.Native.Char.{code}
use Rattle.lists.specs.Cases.{provided}
use Rattle.lists.specs.Lists.{same_list}
use Rattle.lists.proofs.SameLaws.{same_list_true}
use Rattle.matrix.specs.Matrix.{BARRED}
use Rattle.sheet_format.specs.Sheet.{numeral_of, cost_of}

abbrev pub bar : List ℕ
bar = code "-" ∷ []

cost_bar : cost_of bar ≡ some BARRED
unfolding cost_of
cost_bar = refl

bar_no_number : numeral_of bar ≡ none
unfolding numeral_of provided
bar_no_number = refl

module _ (s : List ℕ) (v : ℕ) where
  cost_read : cost_of s ≡ some v → ((s ≡ bar) × (v ≡ BARRED)) ⊎ (numeral_of s ≡ some v)
  unfolding cost_of
  cost_read h = by (same_list s bar) refl h
    where
      by : (t : Bool) → same_list s bar ≡ t → cond t (some BARRED) (numeral_of s) ≡ some v → ((s ≡ bar) × (v ≡ BARRED)) ⊎ (numeral_of s ≡ some v)
      by true e g = inl (same_list_true s bar e, cc)
      by false e g = inr g

  number_read : numeral_of s ≡ some v → cost_of s ≡ some v
  unfolding cost_of
  number_read h = by (same_list s bar) refl
    where
      by : (t : Bool) → same_list s bar ≡ t → cond t (some BARRED) (numeral_of s) ≡ some v
      by true e =
          let n = ap numeral_of (same_list_true s bar e) ∙ bar_no_number in
          let z : ◌≡◌ {A = ℕ} 0 1 = cc in
          absurd (omega arith)
      by false e = h

  pub cost_exactly : (cost_of s ≡ some v) ↔ (((s ≡ bar) × (v ≡ BARRED)) ⊎ (numeral_of s ≡ some v))
  cost_exactly = (cost_read, ⊎_elim (λ b. ap cost_of b.0 ∙ cost_bar ∙ ap some (sym b.1)) number_read)
