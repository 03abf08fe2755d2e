-- Laws: Compare's answer from two tables of costs to go, filled one after the other in the same memory.
use Rattle.std.specs.Prelude.{ℕ, ◌+◌, ◌*◌, ◌≤◌, ◌<◌, max, ◌≡◌, refl, List, length, ℤ, pos, ◌-ℤ◌}
use Rattle.std.proofs.Common.{sym, ap, ap₂, ◌∙◌, mul-le-mul_left, arith}
use Rattle.std.proofs.Math.Option.{Option, some, none}
use Rattle.lists.specs.Stored.{Outside}
use Rattle.lists.proofs.OutsideLaws.{outside_then, outside_wider}
use Rattle.refusal.specs.declared.Refusal.TheVariants.{NoReading}
use Rattle.automaton.specs.Automaton.{Accepts}
use Rattle.automaton.specs.Form.{letters_of, view}
use Rattle.automaton.specs.Valid.{Valid}
use Rattle.automaton.proofs.ValidLaws.{view_proper, valid_at}
use Rattle.matrix.specs.Matrix.{Matrix}
use Rattle.outcome.specs.Outcome.{Outcome}
use Rattle.trellis.specs.Impossible.{TOP}
use Rattle.trellis.proofs.OutcomeLaws.{Pays, outcome_exists, outcome_pays}
use Rattle.trellis_table.specs.Fill.{Sized, Filled, states}
use Rattle.comparison.specs.Comparison.{Comparison, compared, turned_away}
use Rattle.comparison.specs.Checks.{larger_need}
use Rattle.comparison.specs.Passing.{FitsBoth}
use Rattle.comparison.specs.Promise.{difference_report, CompareAnswers}

-- What is reported of two outcomes, by their prices.
module _ (M : Matrix) where
  none_first : (a b : Option (List ℕ)) {p : ℕ} → Pays M a p → TOP ≤ p → difference_report M a b ≡ turned_away NoReading
  none_first none b e h = refl
  none_first (some x) b e h = let l = e.1 in absurd (omega arith)

  none_second : (a b : Option (List ℕ)) {q : ℕ} → Pays M b q → TOP ≤ q → difference_report M a b ≡ turned_away NoReading
  none_second none b e h = refl
  none_second (some x) none e h = refl
  none_second (some x) (some y) e h = let l = e.1 in absurd (omega arith)

  two_prices : (a b : Option (List ℕ)) {p q : ℕ} → Pays M a p → Pays M b q → p < TOP → q < TOP → difference_report M a b ≡ compared (pos p -ℤ pos q)
  two_prices none b e d h k = absurd (omega arith)
  two_prices (some x) none e d h k = absurd (omega arith)
  two_prices (some x) (some y) e d h k = ap₂ (λ m n. compared (pos m -ℤ pos n)) e.0 d.0

-- memory of which only a table of l letters was written, where a larger one has m
table_inside : (t l m : ℕ) {before after : List ℕ} → l ≤ m → Outside 0 ((t + 1) * (2 * l + 1)) before after → Outside 0 ((t + 1) * (2 * m + 1)) before after
table_inside t l m h o = let k : 2 * l + 1 ≤ 2 * m + 1 = omega arith in outside_wider 0 ((t + 1) * (2 * m + 1)) (omega arith) (mul-le-mul_left (t + 1) k) o

module _ {f g : List ℕ} {M : Matrix} (before : List ℕ) (fits : FitsBoth f g M (length before)) where
  room_for : (l : ℕ) → l ≤ max (letters_of f) (letters_of g) → (M.count + 1) * (2 * l + 1) ≤ length before
  room_for l h =
      let w = fits.work in
      let k : 2 * l + 1 ≤ 2 * max (letters_of f) (letters_of g) + 1 = omega arith in
      omega (arith, mul-le-mul_left (M.count + 1) k)

  -- both forms are valid
  pub valid_first : Valid f
  valid_first = valid_at f fits.first

  pub valid_second : Valid g
  valid_second = valid_at g fits.second

  -- there is room for each table
  pub sized_first : Sized f M before (states f)
  sized_first = record { width = fits.wide_first; size = fits.full; row = omega arith; room = room_for (letters_of f) (omega arith) }

  pub sized_second : {work : List ℕ} → length work ≡ length before → Sized g M work (states g)
  sized_second e =
      let r = room_for (letters_of g) (omega arith) in
      record { width = fits.wide_second; size = fits.full; row = omega arith; room = omega arith }

  one : (o : Option (List ℕ)) × Outcome (Accepts (view f)) M o
  one = outcome_exists (view_proper f fits.first) M

  two : (o : Option (List ℕ)) × Outcome (Accepts (view g)) M o
  two = outcome_exists (view_proper g fits.second) M

  answers :
      {after : List ℕ} {answer : Comparison} → Outside 0 (larger_need f g M) before after → difference_report M one.0 two.0 ≡ answer
      → CompareAnswers f g M before after answer
  answers kept e = record { first = one.0; first_is = one.1; second = two.0; second_is = two.1; answered = sym e; work = kept }

  module _ {middle : List ℕ} {p : ℕ} (filled : Filled f M before middle p) (long : length middle ≡ length before) where
    kept_first : Outside 0 (larger_need f g M) before middle
    kept_first = table_inside M.count (letters_of f) (max (letters_of f) (letters_of g)) (omega arith) (record { size = long; front = refl; beyond = filled.beyond })

    pays_first : Pays M one.0 p
    pays_first = outcome_pays (view_proper f fits.first) M fits.wide_first fits.few fits.pass filled.price one.0 one.1

    -- the first form has no reading
    pub nothing_first : TOP ≤ p → CompareAnswers f g M before middle (turned_away NoReading)
    nothing_first h = answers kept_first (none_first M one.0 two.0 pays_first h)

    module _ {after : List ℕ} {q : ℕ} (again : Filled g M middle after q) (as_long : length after ≡ length middle) where
      kept_second : Outside 0 (larger_need f g M) before after
      kept_second =
          outside_then kept_first
          (table_inside M.count (letters_of g) (max (letters_of f) (letters_of g)) (omega arith) (record { size = as_long; front = refl; beyond = again.beyond }))

      pays_second : Pays M two.0 q
      pays_second = outcome_pays (view_proper g fits.second) M fits.wide_second fits.few fits.pass again.price two.0 two.1

      -- the second has none
      pub nothing_second : TOP ≤ q → CompareAnswers f g M before after (turned_away NoReading)
      nothing_second h = answers kept_second (none_second M one.0 two.0 pays_second h)

      -- both have one
      pub both : p < TOP → q < TOP → {d : ℤ} → d ≡ pos p -ℤ pos q → CompareAnswers f g M before after (compared d)
      both h k e = answers kept_second (two_prices M one.0 two.0 pays_first pays_second h k ∙ ap compared (sym e))
