-- Laws of heads: equal heads are equal prefixes, so the letter that goes on is found by two numbers; new letters leave the heads of the others.
use Rattle.std.specs.Prelude.{ℕ, suc, ◌+◌, ◌-◌, ◌<◌, ◌≤◌, ◌≡◌, refl, true, false, ◌&&◌, ◌⊎◌, List, [], ◌∷◌, ◌++◌}
use Rattle.std.proofs.Math.Path.{sym, ap}
use Rattle.std.proofs.Common.{ap₂, ◌∙◌, inl, inr, ⊎_elim, eqb-true, eq-eqb}
use Rattle.std.proofs.Math.Bool.{and-true, and-false, and_assoc}
use native.Mathlib.Omega.{arith}
use Rattle.std.proofs.Math.ListN.{length, get_or, length-append, get_or-append}
use Rattle.std.proofs.Math.Seq.{get_or-append-add}
use Rattle.std.proofs.Math.Dec.{eqb}
use Rattle.lists.specs.Lists.{Among, same_list, lowest}
use Rattle.lists.proofs.AmongLaws.{among_at, among_index}
use Rattle.lists.proofs.LowestLaws.{lowest_found, lowest_some, lowest_is, lowest_most, lowest_same}
use Rattle.lists.proofs.OrderLaws.{never_true, same_truth, lt_or_le, not_both}
use Rattle.lists.proofs.SameLaws.{same_list_self, same_list_true}
use Rattle.wordlist.specs.PrefixTree.{Letter, whole, no_letter, letter_at, prefix_read_at}
use Rattle.wordlist.proofs.LettersLaws.{read_at, read_next, letter_among}
use Rattle.wordlist_build.specs.Heads.{head_of, Present, Rooted, goes_on}

-- Lists with one element at their ends.

last_nothing : (u : List ℕ) (c : ℕ) → same_list (u ++ (c ∷ [])) [] ≡ false
last_nothing [] c = refl
last_nothing (a ∷ u) c = refl

nothing_last : (u : List ℕ) (c : ℕ) → same_list [] (u ++ (c ∷ [])) ≡ false
nothing_last [] c = refl
nothing_last (a ∷ u) c = refl

pub same_last : (u v : List ℕ) (c d : ℕ) → same_list (u ++ (c ∷ [])) (v ++ (d ∷ [])) ≡ (same_list u v && eqb c d)
same_last [] [] c d = and-true (eqb c d)
same_last [] (b ∷ v) c d = ap (λ t. eqb c b && t) (nothing_last v d) ∙ and-false (eqb c b)
same_last (a ∷ u) [] c d = ap (λ t. eqb a d && t) (last_nothing u c) ∙ and-false (eqb a d)
same_last (a ∷ u) (b ∷ v) c d = ap (λ t. eqb a b && t) (same_last u v c d) ∙ sym (and_assoc (eqb a b) (same_list u v) (eqb c d))

module _ (ls : List Letter) where
  pub head_most : (v : List ℕ) → head_of ls v ≤ length ls
  unfolding head_of
  head_most v = lowest_most (λ j. same_list (prefix_read_at ls j) v) (length ls)

  -- a letter at which v has been read
  pub head_some : (v : List ℕ) (j : ℕ) → 1 ≤ j → j ≤ length ls → prefix_read_at ls j ≡ v → 1 ≤ head_of ls v
  unfolding head_of
  head_some v j l h e = lowest_some (λ j. same_list (prefix_read_at ls j) v) (length ls) j l h (rw e (same_list_self v))

  -- what has been read at the head
  pub head_reads : (v : List ℕ) → 1 ≤ head_of ls v → prefix_read_at ls (head_of ls v) ≡ v
  unfolding head_of
  head_reads v s = same_list_true (prefix_read_at ls (head_of ls v)) v (lowest_found (λ j. same_list (prefix_read_at ls j) v) (length ls) s).passes

  -- and at no letter before it
  head_first : (v : List ℕ) (j : ℕ) → 1 ≤ j → j < head_of ls v → same_list (prefix_read_at ls j) v ≡ false
  unfolding head_of
  head_first v j l h =
      let few = head_most v in
      never_true (same_list (prefix_read_at ls j) v) (λ e. let r = (lowest_found (λ k. same_list (prefix_read_at ls k) v) (length ls) (omega arith)).least j l (omega arith) e in omega arith)

  -- none, and so at no letter
  head_none : (v : List ℕ) → head_of ls v ≡ 0 → (j : ℕ) → 1 ≤ j → j ≤ length ls → same_list (prefix_read_at ls j) v ≡ false
  head_none v z j l h = never_true (same_list (prefix_read_at ls j) v) (λ e. let some = head_some v j l h (same_list_true (prefix_read_at ls j) v e) in omega arith)

  pub head_nothing : head_of ls [] ≡ 0
  head_nothing = ⊎_elim (λ z. omega arith) (λ s. absurd (not s)) (lt_or_le (head_of ls []) 1)
    where
      not : 1 ≤ head_of ls [] → ⊥
      not s =
          let p = (letter_at ls (head_of ls [])).prefix in
          not_both (same_list (whole p) []) (rw (sym (read_at ls (head_of ls []) s) ∙ head_reads [] s)) (last_nothing p.before p.character)

  -- Equal heads are equal lists.
  pub heads_same : (v w : List ℕ) → Present ls v → Present ls w → eqb (head_of ls v) (head_of ls w) ≡ same_list v w
  heads_same v w p q =
      same_truth (eqb (head_of ls v) (head_of ls w)) (same_list v w)
      (λ e. by (eqb-true (head_of ls v) (head_of ls w) e) (lt_or_le (head_of ls v) 1))
      (λ e. eq-eqb (head_of ls v) (head_of ls w) (ap (head_of ls) (same_list_true v w e)))
    where
      by : head_of ls v ≡ head_of ls w → (head_of ls v < 1) ⊎ (1 ≤ head_of ls v) → same_list v w ≡ true
      by e (inl z) = ap₂ same_list (p (omega arith)) (q (omega arith)) ∙ same_list_self []
      by e (inr s) = ap₂ same_list (sym (head_reads v s) ∙ ap (prefix_read_at ls) e) (sym (head_reads w (omega arith))) ∙ same_list_self (prefix_read_at ls (head_of ls w))

  pub present_nothing : Present ls []
  present_nothing z = refl

  -- a letter's prefix is present
  pub letter_present : (z : Letter) → Among z ls → Present ls (whole z.prefix)
  letter_present z m e =
      let i = among_index no_letter z ls m in
      let inside = i.1 in
      let s = head_some (whole z.prefix) (suc i.0) (omega arith) (omega arith) (read_next ls i.0 ∙ ap (λ (y : Letter). whole y.prefix) i.2) in
      absurd (omega arith)

  -- The first letter that goes on from v with c is the head of v followed by c.
  pub head_on : (v : List ℕ) (c : ℕ) → Rooted ls → Present ls v → lowest (goes_on ls v c) (length ls) ≡ head_of ls (v ++ (c ∷ []))
  unfolding head_of
  head_on v c rooted here =
      lowest_same (goes_on ls v c) (length ls) (λ j. same_list (prefix_read_at ls j) (v ++ (c ∷ [])))
      (λ j l h.
      let p = (letter_at ls j).prefix in
      ap (λ t. t && eqb p.character c) (heads_same p.before v (rooted (letter_at ls j) (letter_among ls j l h)) here)
      ∙ sym (same_last p.before v p.character c)
      ∙ ap (λ u. same_list u (v ++ (c ∷ []))) (sym (read_at ls j l)))

-- New letters after the others.
module _ (ls new : List Letter) where
  read_more : (j : ℕ) → 1 ≤ j → j ≤ length ls → prefix_read_at (ls ++ new) j ≡ prefix_read_at ls j
  read_more j l h =
      read_at (ls ++ new) j l ∙ ap (λ (z : Letter). whole z.prefix) (get_or-append ls new no_letter (j - 1) (omega arith)) ∙ sym (read_at ls j l)

  head_stays : (v : List ℕ) → 1 ≤ head_of ls v → head_of (ls ++ new) v ≡ head_of ls v
  unfolding head_of
  head_stays v s =
      let most = head_most ls v in
      let size = length-append ls new in
      lowest_is (λ j. same_list (prefix_read_at (ls ++ new) j) v) (length (ls ++ new)) (head_of ls v) s (omega arith)
      (ap (λ u. same_list u v) (read_more (head_of ls v) s most ∙ head_reads ls v s) ∙ same_list_self v)
      (λ j l h. ap (λ u. same_list u v) (read_more j l (omega arith)) ∙ head_first ls v j l h)

  -- the heads of what is present stay
  pub head_more : (v : List ℕ) → Present ls v → head_of (ls ++ new) v ≡ head_of ls v
  head_more v p = ⊎_elim (λ z. ap (head_of (ls ++ new)) (p (omega arith)) ∙ head_nothing (ls ++ new) ∙ omega arith) (head_stays v) (lt_or_le (head_of ls v) 1)

  pub present_more : (v : List ℕ) → Present ls v → Present (ls ++ new) v
  present_more v p z = p (sym (head_more v p) ∙ z)

  -- the head of what is new is the next number
  pub head_new :
      (v : List ℕ) → head_of ls v ≡ 0 → 1 ≤ length new → ((z : Letter) → Among z new → whole z.prefix ≡ v) → head_of (ls ++ new) v ≡ length ls + 1
  unfolding head_of
  head_new v z some is =
      let size = length-append ls new in
      let e : length ls + 1 - 1 ≡ length ls + 0 = omega arith in
      let first : letter_at (ls ++ new) (length ls + 1) ≡ get_or new 0 no_letter = ap (λ n. get_or (ls ++ new) n no_letter) e ∙ get_or-append-add ls new 0 no_letter in
      lowest_is (λ j. same_list (prefix_read_at (ls ++ new) j) v) (length (ls ++ new)) (length ls + 1) (omega arith) (omega arith)
      (ap (λ u. same_list u v)
      (read_at (ls ++ new) (length ls + 1) (omega arith) ∙ ap (λ (y : Letter). whole y.prefix) first
      ∙ is (get_or new 0 no_letter) (among_at no_letter new 0 (omega arith)))
      ∙ same_list_self v)
      (λ j l h. ap (λ u. same_list u v) (read_more j l (omega arith)) ∙ head_none ls v z j l (omega arith))
