-- When a list of labels is turned away by refusal 17, test by test.
use Rattle.std.specs.Prelude.{ℕ, ◌<◌, ◌≤◌, ◌≡◌, true, false, not, ◌||◌, List, length, leb, ltb}
use Rattle.std.proofs.Common.{lt-ltb, le-ltb, leb-true}
use Rattle.std.proofs.lemmas.Bool.{not-false}
use Rattle.lists.specs.Lists.{in_range}
use Rattle.lists.specs.Each.{all, Each}
use Rattle.lists.proofs.OrderLaws.{and_left, or_neither}
use Rattle.lists.proofs.EachLaws.{all_each}
use Rattle.ctc_labels.specs.Calls.{label_fault}

module _ (k low : ℕ) (list : List ℕ) where
  pub fault_alphabet : in_range 1 95 k ≡ false → label_fault k low list ≡ true
  fault_alphabet e = rw e

  pub fault_long : in_range 1 95 k ≡ true → 255 < length list → label_fault k low list ≡ true
  fault_long e l = rw (e, lt-ltb 255 (length list) l)

  pub fault_labels : in_range 1 95 k ≡ true → length list ≤ 255 → label_fault k low list ≡ not (all (in_range low k) list)
  fault_labels e l = rw (e, le-ltb 255 (length list) l)

  -- no fault: each label is at least `low`
  pub faultless_labels : label_fault k low list ≡ false → Each (low ≤◌) list
  faultless_labels e =
      let rest = (or_neither (not (in_range 1 95 k)) (ltb 255 (length list) || not (all (in_range low k) list)) e).1 in
      let last = (or_neither (ltb 255 (length list)) (not (all (in_range low k) list)) rest).1 in
      all_each (in_range low k) (low ≤◌) (λ x h. leb-true low x (and_left (leb low x) (leb x k) h)) list (not-false (all (in_range low k) list) last)
