-- Laws of the labels whose characters pass a test, and of how many labels a character has.
use Rattle.std.specs.Prelude.{ℕ, zero, suc, ◌+◌, ◌-◌, ◌<◌, ◌≤◌, ◌≡◌, refl, Bool, true, cond, ◌↔◌, List, [], ◌∷◌, length, get_or, drop, count_by, eqb}
use Rattle.std.proofs.Common.{sym, ap, ap₂, ◌∙◌, arith, eq-eqb, eqb-true}
use Rattle.std.proofs.lemmas.List.Sums.{sum_by-cons}
use Rattle.lists.specs.Each.{Each}
use Rattle.lists.proofs.EachLaws.{drop_here, drop_all}
use Rattle.lists.specs.Lists.{Among, keep, keeping, numbers, Ascending}
use Rattle.lists.proofs.AmongLaws.{among_keep, keep_among, keep_shorter, keeping_length, among_at, among_index}
use Rattle.lists.proofs.AscendingLaws.{among_numbers, numbers_among, length_numbers, ascending_keep, ascending_numbers}
use Rattle.lists.proofs.RemainingLoops.{from, from_first, keep_here, keep_past}
use Rattle.alphabet.specs.Labels.{Label, character, characters, labels_of_character}

module _ (A : List ℕ) where
  -- the labels whose characters pass the test
  pub labels_exactly :
      (p : ℕ → Bool) (x : ℕ) → Among x (keep (λ y. p (character A y)) (numbers 1 (length A))) ↔ (Label A x × (p (character A x) ≡ true))
  labels_exactly p x = (
    λ m.
        let k = keep_among (λ y. p (character A y)) x (numbers 1 (length A)) m in
        let r = numbers_among 1 (length A) x k.0 in
        ((r.0, omega arith), k.1),
    λ h.
        let high = h.0.1 in
        among_keep (λ y. p (character A y)) x (numbers 1 (length A)) (among_numbers 1 (length A) x h.0.0 (omega arith)) h.1,
  )

  -- each once, ascending
  pub labels_in_order : (p : ℕ → Bool) → Ascending (keep (λ y. p (character A y)) (numbers 1 (length A)))
  labels_in_order p = ascending_keep (λ y. p (character A y)) (numbers 1 (length A)) (ascending_numbers 1 (length A))

  -- characters that the alphabet lists are spelt by some labels
  pub labels_for : (v : List ℕ) → Each (λ b. Among b A) v → (w : List ℕ) × Each (Label A) w × (characters A w ≡ v)
  labels_for [] h = ([], tt, refl)
  labels_for (b ∷ v) h =
      let i = among_index 0 b A h.0 in
      let l = i.1 in
      let e : suc i.0 - 1 ≡ i.0 = omega arith in
      let r = labels_for v h.1 in
      (suc i.0 ∷ r.0, ((omega arith, omega arith), r.1), ap₂ ◌∷◌ (ap (λ k. get_or A k 0) e ∙ i.2) r.2)

  module _ (c : ℕ) where
    -- the labels of a character are those that mean it
    pub label_of : (x : ℕ) → Among x (labels_of_character A c) ↔ (Label A x × (character A x ≡ c))
    label_of x =
        let same = labels_exactly (λ b. eqb b c) x in (
          λ m. let h = same.0 m in (h.0, eqb-true (character A x) c h.1),
          λ h. same.1 (h.0, eq-eqb (character A x) c h.1),
        )

    pub labels_few : length (labels_of_character A c) ≤ length A
    labels_few =
        let e = length_numbers 1 (length A) in
        let h = keep_shorter (λ x. eqb (character A x) c) (numbers 1 (length A)) in
        omega arith

    -- a character has a label exactly if the alphabet lists it
    pub labelled_exactly : (1 ≤ length (labels_of_character A c)) ↔ Among c A
    labelled_exactly = (
      λ h.
          let x = get_or (labels_of_character A c) 0 0 in
          let l = (label_of x).0 (among_at 0 (labels_of_character A c) 0 (omega arith)) in
          let low = l.0.0 in
          let high = l.0.1 in
          listed x l.1 (omega arith),
      λ m.
          let i = among_index 0 c A m in
          let inside = i.1 in
          let k : suc i.0 - 1 ≡ i.0 = omega arith in
          let x = among_index 0 (suc i.0) (labels_of_character A c) ((label_of (suc i.0)).1 ((omega arith, omega arith), ap (λ n. get_or A n 0) k ∙ i.2)) in
          let some = x.1 in
          omega arith,
    )
      where
        listed : (x : ℕ) → character A x ≡ c → x - 1 < length A → Among c A
        listed x e l = rw e at (among_at 0 A (x - 1) l)

    -- the labels from x on
    abbrev pub labels_from : ℕ → List ℕ
    labels_from x = keep (λ y. eqb (character A y) c) (from (length A) x)

    pub labels_first : labels_from 1 ≡ labels_of_character A c
    labels_first = ap (keep (λ y. eqb (character A y) c)) (from_first (length A))

    pub labels_here : (x : ℕ) → x ≤ length A → labels_from x ≡ keeping (eqb (character A x) c) x (labels_from (x + 1))
    labels_here x h = keep_here (length A) (λ y. eqb (character A y) c) x h

    pub labels_past : (x : ℕ) → length A < x → labels_from x ≡ []
    labels_past x h = keep_past (length A) (λ y. eqb (character A y) c) x h

    -- n labels are counted, and those from x on are still to come
    pub counting_more :
        (n m x r : ℕ) → x ≤ length A → n + length (labels_from x) ≡ m → r ≡ cond (eqb (character A x) c) 1 0 → n + r + length (labels_from (x + 1)) ≡ m
    counting_more n m x r h e q =
        let s = ap length (labels_here x h) ∙ keeping_length (eqb (character A x) c) x (labels_from (x + 1)) in
        omega arith

    pub counting_end : (n m x : ℕ) → length A < x → n + length (labels_from x) ≡ m → n ≡ m
    counting_end n m x h e = let z = ap length (labels_past x h) in omega arith

    -- the characters of the alphabet that are c, counted from index i on: each is that of the label i + 1
    counted_from : (n i : ℕ) → i + n ≡ length A → length (labels_from (i + 1)) ≡ count_by (λ b. eqb b c) (drop i A)
    counted_from zero i e = rw (labels_past (i + 1) (omega arith), drop_all A i (omega arith))
    counted_from (suc n) i e =
        let b = get_or A i 0 in
        let k : character A (i + 1) ≡ b = ap (λ j. get_or A j 0) (omega arith) in
        let here = ap length (labels_here (i + 1) (omega arith)) ∙ keeping_length (eqb (character A (i + 1)) c) (i + 1) (labels_from (i + 1 + 1)) in
        let more = counted_from n (i + 1) (omega arith) in
        let sum = ap (count_by (λ b. eqb b c)) (drop_here 0 A i (omega arith)) ∙ sum_by-cons (λ b. cond (eqb b c) 1 0) b (drop (i + 1) A) in
        let t = ap {B = ℕ} (λ x. cond (eqb x c) 1 0) k in
        omega (arith, here, more, sum, t)

    pub labels_counted : length (labels_of_character A c) ≡ count_by (λ b. eqb b c) A
    labels_counted = sym (ap length labels_first) ∙ counted_from (length A) 0 (omega arith)
