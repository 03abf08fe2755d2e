-- Laws: a letter that has the arcs of the letter before it may be followed by the same letters.
use Rattle.std.specs.Prelude.{ℕ, ◌+◌, ◌-◌, ◌<◌, ◌≤◌, ◌≡◌, Bool, true, false, ◌⊎◌, List, length, get_or, replicate}
use Rattle.std.proofs.Common.{sym, ap, subst, ◌∙◌, inl, inr, arith}
use Rattle.lists.proofs.OrderLaws.{same_truth}
use Rattle.lists.specs.Marks.{Has}
use Rattle.lists.proofs.MarksLaws.{has_none}
use Rattle.automaton.specs.Form.{letters_of, follow_of, target}
use Rattle.automaton.specs.Valid.{Valid}
use Rattle.automaton.proofs.ValidLaws.{follow_arc, arc_follow}
use Rattle.form_starts.specs.Starts.{StartsAt, ArcStarts}
use Rattle.form_starts.specs.Loops.{range_source, range_rises, source_range}
use Rattle.form_arcs.specs.Equal.{SameTargets, SameArcs, Shares, EqualArcs}

-- The arcs of the letter before are from a up to b, those of letter i from b up to e.
module _ (f : List ℕ) (i a b e : ℕ) (late : 2 ≤ i) (before : StartsAt f (i - 1) a) (first : StartsAt f i b) (next : StartsAt f (i + 1) e) where
  before_first : StartsAt f (i - 1 + 1) b
  before_first = let q : i ≡ i - 1 + 1 = omega arith in subst (λ k. StartsAt f k b) q first

  pub rises : (a ≤ b) × (b ≤ e)
  rises = (range_rises f (i - 1) a b before before_first, range_rises f i b e first next)

  same_follow : e - b ≡ b - a → SameTargets f a b (e - b) → (j : ℕ) → follow_of f i j ≡ follow_of f (i - 1) j
  same_follow long same j = same_truth (follow_of f i j) (follow_of f (i - 1) j) there back
    where
      there : follow_of f i j ≡ true → follow_of f (i - 1) j ≡ true
      there h =
          let w = follow_arc f i j (omega arith) h in
          let r = source_range f i b e first next w.index w.past w.inside w.from in
          let u = rises in
          let k : ℕ = w.index - b in
          let p = before.past in
          let q = first.inside in
          let r0 = r.0 in
          let r1 = r.1 in
          let at : b + k ≡ w.index = omega arith in
          arc_follow f (i - 1) j (omega arith)
          (record {
            index = a + k;
            past = omega arith;
            inside = omega arith;
            from = range_source f (i - 1) a b before before_first (a + k) (omega arith) (omega arith);
            to = same k (omega arith) ∙ ap (λ n. target (get_or f n 0)) at ∙ w.to;
          })

      back : follow_of f (i - 1) j ≡ true → follow_of f i j ≡ true
      back h =
          let w = follow_arc f (i - 1) j (omega arith) h in
          let r = source_range f (i - 1) a b before before_first w.index w.past w.inside w.from in
          let u = rises in
          let k : ℕ = w.index - a in
          let p = first.past in
          let q = next.inside in
          let r0 = r.0 in
          let r1 = r.1 in
          let at : a + k ≡ w.index = omega arith in
          arc_follow f i j (omega arith)
          (record {
            index = b + k;
            past = omega arith;
            inside = omega arith;
            from = range_source f i b e first next (b + k) (omega arith) (omega arith);
            to = sym (same k (omega arith)) ∙ ap (λ n. target (get_or f n 0)) at ∙ w.to;
          })

module _ (f s : List ℕ) (valid : Valid f) (starts : ArcStarts f s) (i : ℕ) (late : 2 ≤ i) (high : i ≤ letters_of f) where
  few : i + 1 < 129
  few = let h = valid.head.letters_high in omega arith

  pub starts_rise : (get_or s (i - 1) 0 ≤ get_or s i 0) × (get_or s i 0 ≤ get_or s (i + 1) 0) × (get_or s (i + 1) 0 ≤ length f)
  starts_rise =
      let h = few in
      let r = rises f i (get_or s (i - 1) 0) (get_or s i 0) (get_or s (i + 1) 0) late (starts.starts (i - 1) (omega arith)) (starts.starts i (omega arith)) (starts.starts (i + 1) h) in
      (r.0, r.1, (starts.starts (i + 1) h).inside)

  -- the same arcs, the same letters
  pub same_letters : SameArcs f s i → (j : ℕ) → follow_of f i j ≡ follow_of f (i - 1) j
  same_letters same =
      let h = few in
      same_follow f i (get_or s (i - 1) 0) (get_or s i 0) (get_or s (i + 1) 0) late (starts.starts (i - 1) (omega arith)) (starts.starts i (omega arith)) (starts.starts (i + 1) h) same.0 same.1

-- a marked letter may be followed by the same letters as the letter before it
pub equal_letters :
    (f s : List ℕ) (same : List Bool) → Valid f → ArcStarts f s → EqualArcs f s same → (i : ℕ) → Has same i → (j : ℕ) → follow_of f i j ≡ follow_of f (i - 1) j
equal_letters f s same valid starts equal i h = by (equal.only i h)
  where
    by : Has (replicate 128 false) i ⊎ Shares f s i → (j : ℕ) → follow_of f i j ≡ follow_of f (i - 1) j
    by (inl z) = absurd (has_none 128 i z)
    by (inr q) = same_letters f s valid starts i q.0 q.1 q.2
