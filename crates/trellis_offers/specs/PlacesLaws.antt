-- Laws: the targets from a letter's start up to the next are those of its arcs; the first letters of a list are those that may be first.
use Rattle.std.specs.Prelude.{ℕ, ◌+◌, ◌%◌, ◌<◌, ◌≤◌, ◌≡◌, true, List, length, get_or}
use Rattle.std.proofs.Common.{sym, ap, ◌∙◌, arith}
use Rattle.lists.proofs.LeastLaws.{least_same}
use Rattle.lists.specs.Least.{Least, Among}
use Rattle.automaton.specs.Form.{letters_of, label_of, follow_of, target, view}
use Rattle.automaton.specs.Valid.{Valid}
use Rattle.automaton.proofs.ValidLaws.{first_letter, follow_arc, arc_follow}
use Rattle.form_starts.specs.Starts.{StartsAt}
use Rattle.form_starts.specs.Loops.{range_source, range_rises, source_range}
use Rattle.form_arcs.specs.Firsts.{Firsts}
use Rattle.trellis.specs.Cells.{ByArc}
use Rattle.trellis_offers.specs.Offers.{FAR, key_of, LeastOther, LeastKey}
use Rattle.trellis_offers.specs.Places.{key_at, Looked, KeyAt, OtherAt, Known}

-- Letter i: its targets are in the list from its start up to the next.
module _ {f ts s ks : List ℕ} {i : ℕ} (known : Known f ts s ks i) where
  few : i + 1 < 129
  few = let h = known.high in let m = known.valid.head.letters_high in omega arith

  first : StartsAt f i (get_or s i 0)
  first = let h = few in known.starts.starts i (omega arith)

  next : StartsAt f (i + 1) (get_or s (i + 1) 0)
  next = known.starts.starts (i + 1) few

  arc_target : (k : ℕ) → get_or s i 0 ≤ k → k < get_or s (i + 1) 0 → (1 ≤ get_or ts k 0) × (get_or ts k 0 ≤ letters_of f) × (get_or ts k 0 ≡ target (get_or f k 0))
  arc_target k l h =
      let p = first.past in
      let q = next.inside in
      let a = known.valid.arc k (omega arith) (omega arith) in
      let e = known.targets.is k (omega arith) in
      let low = a.target_low in
      let high = a.target_high in
      (omega arith, omega arith, e)

  pub arcs_looked : Looked ts ks (get_or s i 0) (get_or s (i + 1) 0)
  arcs_looked =
      record {
        rises = range_rises f i (get_or s i 0) (get_or s (i + 1) 0) first next;
        inside = let q = next.inside in let n = known.targets.long in omega arith;
        within = λ k l h. let t = (arc_target k l h).1 in let m = known.valid.head.letters_high in let z = known.size in omega arith;
      }

  there : (k : ℕ) → get_or s i 0 ≤ k → k < get_or s (i + 1) 0 → follow_of f i (get_or ts k 0) ≡ true
  there k l h =
      let p = first.past in
      let q = next.inside in
      arc_follow f i (get_or ts k 0) known.low
      (record {
        index = k;
        past = omega arith;
        inside = omega arith;
        from = range_source f i (get_or s i 0) (get_or s (i + 1) 0) first next k l h;
        to = sym (arc_target k l h).2;
      })

  label_at : (k : ℕ) → get_or s i 0 ≤ k → k < get_or s (i + 1) 0 → key_at ts ks k % 256 ≡ label_of f (get_or ts k 0)
  label_at k l h = let t = arc_target k l h in known.keys.label (get_or ts k 0) t.0 t.1

  back : (j : ℕ) → follow_of f i j ≡ true → (k : ℕ) × (get_or s i 0 ≤ k) × (k < get_or s (i + 1) 0) × (get_or ts k 0 ≡ j)
  back j e =
      let a = follow_arc f i j known.low e in
      let r = source_range f i (get_or s i 0) (get_or s (i + 1) 0) first next a.index a.past a.inside a.from in
      (a.index, r.0, r.1, (arc_target a.index r.0 r.1).2 ∙ a.to)

  pub arcs_all : {m : ℕ} → Least FAR (Among (get_or s i 0) (get_or s (i + 1) 0) (KeyAt ts ks)) m → LeastKey f ks i m
  arcs_all =
      least_same (ByArc (view f) (key_of ks) i 0)
      (λ n o.
      let t = arc_target o.0 o.1 o.2 in
      let x = (known.valid.letter (get_or ts o.0 0) t.0 t.1).low in
      (get_or ts o.0 0, there o.0 o.1 o.2, λ z. omega arith, o.3))
      (λ n o. let k = back o.0 o.1 in (k.0, k.1, k.2, o.3 ∙ sym (ap (key_of ks) k.3)))

  pub arcs_other : (own : ℕ) {m : ℕ} → Least FAR (Among (get_or s i 0) (get_or s (i + 1) 0) (OtherAt ts ks own)) m → LeastOther f ks i own m
  arcs_other own =
      least_same (ByArc (view f) (key_of ks) i own)
      (λ n o. (get_or ts o.0 0, there o.0 o.1 o.2, λ z. o.3.0 (label_at o.0 o.1 o.2 ∙ z), o.3.1))
      (λ n o.
      let k = back o.0 o.1 in
      (k.0, k.1, k.2, (λ z. o.2 (sym (ap (label_of f) k.3) ∙ sym (label_at k.0 k.1 k.2) ∙ z), o.3 ∙ sym (ap (key_of ks) k.3))))

-- The letters that may be first, in a list.
module _ (f ks list : List ℕ) (n : ℕ) (valid : Valid f) (size : length ks ≡ 128) (firsts : Firsts f list n) where
  first_at : (k : ℕ) → k < n → (1 ≤ get_or list k 0) × (get_or list k 0 ≤ letters_of f)
  first_at k h = first_letter f (get_or list k 0) (firsts.is k h)

  pub firsts_looked : Looked list ks 0 n
  firsts_looked =
      let few = valid.head.letters_high in
      let z = firsts.size in
      let m = firsts.few in
      let y = size in
      record { rises = omega arith; inside = omega arith; within = λ k l h. let t = (first_at k h).1 in omega arith }

  pub firsts_all : {m : ℕ} → Least FAR (Among 0 n (KeyAt list ks)) m → LeastKey f ks 0 m
  firsts_all =
      least_same (ByArc (view f) (key_of ks) 0 0)
      (λ v o.
      let t = first_at o.0 o.2 in
      let x = (valid.letter (get_or list o.0 0) t.0 t.1).low in
      (get_or list o.0 0, firsts.is o.0 o.2, λ z. omega arith, o.3))
      (λ v o.
      let b = (first_letter f o.0 o.1).1 in
      let k = firsts.all o.0 (omega arith) o.1 in
      (k.0, omega arith, k.1, o.3 ∙ sym (ap (key_of ks) k.2)))
