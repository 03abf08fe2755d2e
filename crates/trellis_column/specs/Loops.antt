-- One column of the trace, one iteration of a loop over states at a time.
use Rattle.std.specs.Prelude.{ℕ, ◌+◌, ◌*◌, ◌-◌, ◌≤◌, ◌<◌, ◌≡◌, refl, min, Bool, List, ◌⊎◌, Option, Some, None, MatchOption, eqb, length, get_or}
use Rattle.std.proofs.Common.{sym, ap, ◌∙◌, inl, inr, arith, eqb-true, eq-eqb}
use Rattle.lists.proofs.OrderLaws.{lt_or_le, eq_or_ne}
use Rattle.lists.proofs.LeastLaws.{least_one, least_same}
use Rattle.lists.specs.Least.{Least, Among}
use Rattle.lists.proofs.MarksLaws.{marks_none, marks_same}
use Rattle.lists.specs.Marks.{Has, Marks, Iterations, Listed}
use Rattle.automaton.specs.Automaton.{Automaton}
use Rattle.automaton.specs.Form.{letters_of, view}
use Rattle.automaton.specs.Valid.{Valid}
use Rattle.trellis.specs.Impossible.{TOP}
use Rattle.trellis.specs.Reached.{entering}
use Rattle.trellis_steps.specs.Loops.{entering_high}
use Rattle.trellis_members.specs.Members.{Lists, IsEmpty, JustIf}
use Rattle.trellis_members.specs.MembersLaws.{lists_has}
use Rattle.trellis_column.specs.Column.{NONE, blank_after, BlankAt, Blanks, LabelIn, LabelAt, Lowest, OfLabel, PicksAt}

-- State s, put if its value by g is x.

module _ (g : ℕ → ℕ) (x s : ℕ) where
  pub put_valued :
      {y : ℕ} {set after : List Bool} → y ≡ g s → Marks (JustIf (eqb y x) s) set after → Marks (λ u. (u ≡ s) × (g u ≡ x)) set after
  put_valued {y = y} {set = set} {after = after} e = marks_same (JustIf (eqb y x) s) (λ u. (u ≡ s) × (g u ≡ x)) set after there back
    where
      there : (u : ℕ) → JustIf (eqb y x) s u → (u ≡ s) × (g u ≡ x)
      there u (t, q) = (q, ap g q ∙ sym e ∙ eqb-true y x t)

      back : (u : ℕ) → (u ≡ s) × (g u ≡ x) → JustIf (eqb y x) s u
      back u (q, z) = (eq-eqb y x (e ∙ sym (ap g q) ∙ z), q)

-- The blanks after the listed states.

module _ (column row : List ℕ) (v : ℕ) (below : v < TOP) (from : List ℕ) (n : ℕ) where
  pub blanks_dear : (set : List Bool) → v < get_or column 0 0 → Marks (Blanks column row v (Listed from n)) set set
  blanks_dear set h = marks_none (Blanks column row v (Listed from n)) set (λ u q. let e = q.3 in omega arith)

  pub blanks_all :
      {set after : List Bool} → get_or column 0 0 ≤ v → Marks (Iterations (BlankAt row (v - get_or column 0 0) from) 0 n) set after
      → Marks (Blanks column row v (Listed from n)) set after
  blanks_all {set = set} {after = after} h =
      marks_same (Iterations (BlankAt row (v - get_or column 0 0) from) 0 n) (Blanks column row v (Listed from n)) set after there back
    where
      there : (u : ℕ) → Iterations (BlankAt row (v - get_or column 0 0) from) 0 n u → Blanks column row v (Listed from n) u
      there u (k, low, high, q) = (get_or from k 0, (k, high, refl), q.0, let e = q.1 in omega arith)

      back : (u : ℕ) → Blanks column row v (Listed from n) u → Iterations (BlankAt row (v - get_or column 0 0) from) 0 n u
      back u (s, (k, g, e), q, p) = (k, omega arith, g, (q ∙ ap blank_after (sym e), omega arith))

-- The lowest label of the listed states.

-- the label of one state is below NONE
pub label_least :
    (f list : List ℕ) (k : ℕ) {x : ℕ} → Valid f → get_or list k 0 ≤ 2 * letters_of f → x ≡ entering (view f) (get_or list k 0)
    → Least NONE (LabelAt (view f) list k) x
label_least f list k {x = x} valid h e =
    let high = entering_high f valid (get_or list k 0) h in
    let few = valid.head.alphabet_high in
    least_same (LabelAt (view f) list k) (λ n z. z ∙ e) (λ n z. z ∙ sym e) (least_one x (omega arith))

pub labels_all :
    (A : Automaton) (list : List ℕ) (n : ℕ) {x : ℕ} → Least NONE (Among 0 n (LabelAt A list)) x → Least NONE (LabelIn A (Listed list n)) x
labels_all A list n = least_same (LabelIn A (Listed list n)) there back
  where
    there : (x : ℕ) → Among 0 n (LabelAt A list) x → LabelIn A (Listed list n) x
    there x (k, low, high, e) = (get_or list k 0, (k, high, refl), e)

    back : (x : ℕ) → LabelIn A (Listed list n) x → Among 0 n (LabelAt A list) x
    back x (u, (k, high, q), e) = (k, omega arith, high, e ∙ ap (entering A) (sym q))

-- The same with no number that means 'no label'.

pub lowest_first : (A : Automaton) (list : List ℕ) (k x : ℕ) → k ≡ 0 → x ≡ entering A (get_or list k 0) → Lowest (Among 0 (k + 1) (LabelAt A list)) x
lowest_first A list k x none e =
    ((k, omega arith, omega arith, e), λ y (i, low, high, q). let z : i ≡ k = omega arith in let same = ap (λ i. entering A (get_or list i 0)) z in omega arith)

pub lowest_more :
    (A : Automaton) (list : List ℕ) (k x y : ℕ) → Lowest (Among 0 k (LabelAt A list)) y → x ≡ entering A (get_or list k 0)
    → Lowest (Among 0 (k + 1) (LabelAt A list)) (min x y)
lowest_more A list k x y (offered, least) e = (by (lt_or_le x y), lowest)
  where
    by : (x < y) ⊎ (y ≤ x) → Among 0 (k + 1) (LabelAt A list) (min x y)
    by (inl h) = let z : min x y ≡ x = omega arith in (k, omega arith, omega arith, z ∙ e)
    by (inr h) =
        let z : min x y ≡ y = omega arith in
        let i = offered.2 in
        (offered.0, omega arith, omega arith, z ∙ offered.3)

    lowest : (n : ℕ) → Among 0 (k + 1) (LabelAt A list) n → min x y ≤ n
    lowest n (i, low, high, q) = at (eq_or_ne i k)
      where
        at : (i ≡ k) ⊎ (i ≡ k → ⊥) → min x y ≤ n
        at (inl z) = let same = ap (λ i. entering A (get_or list i 0)) z in omega arith
        at (inr d) = let l = least n (i, low, omega arith, q) in omega arith

pub lowest_members :
    (A : Automaton) {from : List Bool} {list : List ℕ} → Lists from list → (o : Option ℕ) (k : ℕ) → k ≡ length list
    → MatchOption o (k ≡ 0) (Lowest (Among 0 k (LabelAt A list))) → MatchOption o (IsEmpty from) (Lowest (LabelIn A (Has from)))
lowest_members A {from = from} {list = list} lists None k all none = λ u h. let l = (lists.all u h).1 in absurd (omega arith)
lowest_members A {from = from} {list = list} lists (Some x) k all ((i, low, high, e), least) =
    ((get_or list i 0, lists.has i (omega arith), e), λ y (u, h, q). let l = lists.all u h in least y (l.0, omega arith, (let j = l.1 in omega arith), q ∙ ap (entering A) (sym l.2)))

-- The listed states of a label.

pub picked_all :
    (A : Automaton) (x : ℕ) (list : List ℕ) (n : ℕ) {set after : List Bool} → Marks (Iterations (PicksAt A x list) 0 n) set after
    → Marks (OfLabel A x (Listed list n)) set after
picked_all A x list n {set = set} {after = after} =
    marks_same (Iterations (PicksAt A x list) 0 n) (OfLabel A x (Listed list n)) set after there back
  where
    there : (u : ℕ) → Iterations (PicksAt A x list) 0 n u → OfLabel A x (Listed list n) u
    there u (k, low, high, q) = ((k, high, sym q.0), q.1)

    back : (u : ℕ) → OfLabel A x (Listed list n) u → Iterations (PicksAt A x list) 0 n u
    back u ((k, high, e), q) = (k, omega arith, high, (sym e, q))

-- The same by the set whose members the list has.

module _ {from : List Bool} {list : List ℕ} (lists : Lists from list) where
  pub blanks_members :
      (column row : List ℕ) (v : ℕ) {set after : List Bool} → Marks (Blanks column row v (Listed list (length list))) set after
      → Marks (Blanks column row v (Has from)) set after
  blanks_members column row v {set = set} {after = after} =
      marks_same (Blanks column row v (Listed list (length list))) (Blanks column row v (Has from)) set after
      (λ u (s, l, e, q). (s, lists_has lists s l, e, q))
      (λ u (s, h, e, q). (s, lists.all s h, e, q))

  pub picked_members :
      (A : Automaton) (x : ℕ) {set after : List Bool} → Marks (OfLabel A x (Listed list (length list))) set after
      → Marks (OfLabel A x (Has from)) set after
  picked_members A x {set = set} {after = after} =
      marks_same (OfLabel A x (Listed list (length list))) (OfLabel A x (Has from)) set after
      (λ u (l, e). (lists_has lists u l, e))
      (λ u (h, e). (lists.all u h, e))
