-- Costs, prices and paths on document 01's first line to try, the dearest cost that is usable, a barred label, and the fields of a view.
use Rattle.std.specs.Prelude.{◌≡◌, refl, [], ◌∷◌}
use Rattle.std.proofs.Common.{inl, inr, arith}
use Rattle.matrix.specs.Matrix.{Matrix, matrix, BARRED, cost, price}
use Rattle.matrix.specs.Barred.{Unbarred, NoneBarred}
use Rattle.matrix.specs.Paths.{Usable, PathOf, Passing}
use Rattle.matrix.specs.View.{value}
use Rattle.matrix.specs.declared.Matrix.{Matrix as View}

-- two columns, each with the costs of blank, a and b
abbrev two : Matrix
two = matrix (5 ∷ 1 ∷ 9 ∷ 6 ∷ 8 ∷ 2 ∷ []) 3 2

-- two columns: in the first the blank is barred, in the second b
abbrev barred : Matrix
barred = matrix (4294967295 ∷ 1 ∷ 9 ∷ 6 ∷ 8 ∷ 4294967295 ∷ []) 3 2

record Examples : Type 0 where
  first_column : cost two 0 2 ≡ 9
  second_column : cost two 1 0 ≡ 6
  own_price : price two (1 ∷ 2 ∷ []) ≡ 3
  -- one label for each column, each 0 to K
  path : PathOf two (0 ∷ 2 ∷ [])
  too_short : PathOf two (0 ∷ []) → ⊥
  no_label : PathOf two (0 ∷ 3 ∷ []) → ⊥
  -- "A cost is 0 to 1,000,000."
  dearest : Usable 1000000
  too_dear : Usable 1000001 → ⊥
  free : Usable 0
  -- "Cost 4,294,967,295 now means a barred label", and of the numbers above 1,000,000 refusal 13 spares that one
  mark : cost barred 1 2 ≡ BARRED
  spared : Passing 4294967295
  others : (Passing 1000001 → ⊥) × (Passing 4294967294 → ⊥) × (Passing 4294967296 → ⊥)
  -- "A list that uses a barred label is no rival": labels are barred in their column only
  used : (Unbarred barred (0 ∷ 0 ∷ []) → ⊥) × (Unbarred barred (1 ∷ 2 ∷ []) → ⊥)
  no_path : PathOf barred (0 ∷ 0 ∷ []) → ⊥
  unused : Unbarred barred (2 ∷ 0 ∷ []) × PathOf barred (2 ∷ 0 ∷ []) × (price barred (2 ∷ 0 ∷ []) ≡ 15)
  -- a number that refusal 13 turns away bars no label
  turned_away : Unbarred (matrix (1000001 ∷ []) 1 1) (0 ∷ [])
  some_barred : NoneBarred two × (NoneBarred barred → ⊥)
  -- "its costs, its column width and its column count": each is the field of that name
  by_name : (v : View) → ((value v).costs ≡ v.costs.now) × ((value v).width ≡ v.width) × ((value v).count ≡ v.count)

examples : Examples
examples = record {
  first_column = refl;
  second_column = refl;
  own_price = refl;
  path = record { one_each = refl; labels = (omega arith, omega arith, (omega arith, omega arith, tt)) };
  too_short = λ h. let e = h.one_each in omega arith;
  no_label = λ h. let l = h.labels.2.0 in omega arith;
  dearest = omega arith;
  too_dear = λ h. omega arith;
  free = omega arith;
  mark = refl;
  spared = inr refl;
  others = (
    elim [ inl h ↦ omega arith | inr e ↦ omega arith ],
    elim [ inl h ↦ omega arith | inr e ↦ omega arith ],
    elim [ inl h ↦ omega arith | inr e ↦ omega arith ],
  );
  used = (λ u. u.0 refl, λ u. u.1.0 refl);
  no_path = λ h. let u = h.labels.1 in omega arith;
  unused = (
    (λ e. omega arith, (λ e. omega arith, tt)),
    record { one_each = refl; labels = (omega arith, omega arith, (omega arith, omega arith, tt)) },
    refl,
  );
  turned_away = (λ e. omega arith, tt);
  some_barred = (
    (λ e. omega arith, (λ e. omega arith, (λ e. omega arith, (λ e. omega arith, (λ e. omega arith, (λ e. omega arith, tt)))))),
    λ h. h.0 refl,
  );
  by_name = λ v. (refl, refl, refl);
}
