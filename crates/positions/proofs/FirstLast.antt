-- A letter may be first exactly if some word begins with it, and last exactly if some word ends with it (document 01, "Opening and the
-- compiled form"). Words are written by the numbers of their letters, and each set has a label.
-- For the reader: nothing uses it.
use Rattle.std.specs.Prelude.{ℕ, zero, suc, ◌+◌, ◌≤◌, ◌≡◌, refl, ◌⊎◌, ◌↔◌, true, false, ◌&&◌, List, [], ◌∷◌, ◌++◌, length}
use Rattle.std.proofs.Common.{sym, ap, inl, inr, ⊎_elim, append-nil, append_assoc, arith, eqb-true}
use Rattle.lists.proofs.OrderLaws.{not_both, and_left, and_right, or_either}
use Rattle.automaton.specs.Automaton.{Walk}
use Rattle.regex_tree.specs.Tree.{Tree, set, group, times, join, either, Joined}
use Rattle.regex_tree.proofs.SenseLaws.{Sensible}
use Rattle.positions.specs.Opened.{Opened, letter, joining, alternation, optional, star, plus, empty, never, any_of, labels_of_set, opened, letters}
use Rattle.positions.specs.OpenedWords.{OpenedWords}
use Rattle.positions.proofs.LettersLaws.{labels_counted}
use Rattle.positions.specs.Numbered.{Positions, numbered, assembled, position_automaton, automaton_of}
use Rattle.positions.proofs.EquationsLaws.{Kept, repeated_kept}
use Rattle.positions.proofs.InsideLaws.{Inside, goes_to}
use Rattle.positions.proofs.Exact.{numbered_inside}
use Rattle.positions.proofs.MarkedLaws.{marked, self, walks, word_walks}

-- the expression has a word
abbrev pub Some : Opened → Type 0
Some (letter a) = Unit {0}
Some (joining r s) = Some r × Some s
Some (alternation r s) = Some r ⊎ Some s
Some (optional r) = Unit {0}
Some (star r) = Unit {0}
Some (plus r) = Some r
Some empty = Unit {0}
Some never = ⊥

-- each part that is joined to another has a word
abbrev pub Useful : Opened → Type 0
Useful (letter a) = Unit {0}
Useful (joining r s) = Useful r × Useful s × Some r × Some s
Useful (alternation r s) = Useful r × Useful s
Useful (optional r) = Useful r
Useful (star r) = Useful r
Useful (plus r) = Useful r
Useful empty = Unit {0}
Useful never = Unit {0}

once : (P : List ℕ → Type 0) (w : List ℕ) → P w → Joined P 1 w
once P w h = (w, [], sym (append-nil w), h, refl)

some_word : (n : ℕ) (r : Opened) → Some r → (w : List ℕ) × OpenedWords (marked n r) w
unfolding marked
some_word n (letter a) h = (n ∷ [], refl)
some_word n (joining r s) h =
    let x = some_word n r h.0 in let y = some_word (n + letters r) s h.1 in
    (x.0 ++ y.0, (x.0, y.0, refl, x.1, y.1))
some_word n (alternation r s) (inl h) = let x = some_word n r h in (x.0, inl x.1)
some_word n (alternation r s) (inr h) = let x = some_word (n + letters r) s h in (x.0, inr x.1)
some_word n (optional r) h = ([], inl refl)
some_word n (star r) h = ([], (0, refl))
some_word n (plus r) h = let x = some_word n r h in (x.0, (0, once (OpenedWords (marked n r)) x.0 x.1))
some_word n empty h = ([], refl)
some_word n never h = absurd h

empty_word : (n : ℕ) (r : Opened) → 1 ≤ n → (numbered n r).nullable ≡ true → OpenedWords (marked n r) []
empty_word n r l h = (walks n r l []).0 ([], h, refl)

-- some word begins, or ends, with letter i
abbrev pub Begun : ℕ → Opened → ℕ → Type 0
Begun n r i = (w : List ℕ) × OpenedWords (marked n r) (i ∷ w)

abbrev pub Ended : ℕ → Opened → ℕ → Type 0
Ended n r i = (w : List ℕ) × OpenedWords (marked n r) (w ++ (i ∷ []))

first_begins : (n : ℕ) (r : Opened) → 1 ≤ n → Useful r → (i : ℕ) → (numbered n r).first i ≡ true → Begun n r i
unfolding marked numbered
first_begins n (letter a) l u i h = ([], ap (λ k. k ∷ []) (eqb-true i n h))
first_begins n (joining r s) l u i h =
    let p = numbered n r in let q = numbered (n + letters r) s in
    let v = some_word (n + letters r) s u.3 in
    ⊎_elim (λ e. let x = first_begins n r l u.0 i e in (x.0 ++ v.0, (i ∷ x.0, v.0, refl, x.1, v.1)))
    (λ e. let x = first_begins (n + letters r) s (omega arith) u.1 i (and_right p.nullable (q.first i) e) in
    (x.0, ([], i ∷ x.0, refl, empty_word n r l (and_left p.nullable (q.first i) e), x.1)))
    (or_either (p.first i) (p.nullable && q.first i) h)
first_begins n (alternation r s) l u i h =
    ⊎_elim (λ e. let x = first_begins n r l u.0 i e in (x.0, inl x.1))
    (λ e. let x = first_begins (n + letters r) s (omega arith) u.1 i e in (x.0, inr x.1))
    (or_either ((numbered n r).first i) ((numbered (n + letters r) s).first i) h)
first_begins n (optional r) l u i h = let x = first_begins n r l u i h in (x.0, inr x.1)
first_begins n (star r) l u i h = let x = first_begins n r l u i h in (x.0, (1, once (OpenedWords (marked n r)) (i ∷ x.0) x.1))
first_begins n (plus r) l u i h = let x = first_begins n r l u i h in (x.0, (0, once (OpenedWords (marked n r)) (i ∷ x.0) x.1))
first_begins n empty l u i h = absurd (not_both false h refl)
first_begins n never l u i h = absurd (not_both false h refl)

last_ends : (n : ℕ) (r : Opened) → 1 ≤ n → Useful r → (i : ℕ) → (numbered n r).last i ≡ true → Ended n r i
unfolding marked numbered
last_ends n (letter a) l u i h = ([], ap (λ k. k ∷ []) (eqb-true i n h))
last_ends n (joining r s) l u i h =
    let p = numbered n r in let q = numbered (n + letters r) s in
    let v = some_word n r u.2 in
    ⊎_elim
    (λ e. let x = last_ends (n + letters r) s (omega arith) u.1 i e in
    (v.0 ++ x.0, (v.0, x.0 ++ (i ∷ []), append_assoc v.0 x.0 (i ∷ []), v.1, x.1)))
    (λ e. let x = last_ends n r l u.0 i (and_right q.nullable (p.last i) e) in
    (x.0, (x.0 ++ (i ∷ []), [], sym (append-nil (x.0 ++ (i ∷ []))), x.1, empty_word (n + letters r) s (omega arith) (and_left q.nullable (p.last i) e))))
    (or_either (q.last i) (q.nullable && p.last i) h)
last_ends n (alternation r s) l u i h =
    ⊎_elim (λ e. let x = last_ends n r l u.0 i e in (x.0, inl x.1))
    (λ e. let x = last_ends (n + letters r) s (omega arith) u.1 i e in (x.0, inr x.1))
    (or_either ((numbered n r).last i) ((numbered (n + letters r) s).last i) h)
last_ends n (optional r) l u i h = let x = last_ends n r l u i h in (x.0, inr x.1)
last_ends n (star r) l u i h = let x = last_ends n r l u i h in (x.0, (1, once (OpenedWords (marked n r)) (x.0 ++ (i ∷ [])) x.1))
last_ends n (plus r) l u i h = let x = last_ends n r l u i h in (x.0, (0, once (OpenedWords (marked n r)) (x.0 ++ (i ∷ [])) x.1))
last_ends n empty l u i h = absurd (not_both false h refl)
last_ends n never l u i h = absurd (not_both false h refl)

-- conversely: such a word is a walk
walk_ends : (n m : ℕ) (p : Positions) → 1 ≤ n → Inside n m p → (k i : ℕ) (js : List ℕ) → Walk (assembled 0 self p) k (js ++ (i ∷ [])) → p.last i ≡ true
walk_ends n m p l x k zero [] h = let z = goes_to x k 0 h.0 in absurd (omega arith)
walk_ends n m p l x k (suc i) [] h = h.1
walk_ends n m p l x k i (j ∷ js) h = walk_ends n m p l x j i js h.1

pub first_exact : (n : ℕ) (r : Opened) → 1 ≤ n → Useful r → (i : ℕ) → ((numbered n r).first i ≡ true) ↔ Begun n r i
first_exact n r l u i = (first_begins n r l u i, λ h. (word_walks n r l (i ∷ h.0) h.1).0)

pub last_exact : (n : ℕ) (r : Opened) → 1 ≤ n → Useful r → (i : ℕ) → ((numbered n r).last i ≡ true) ↔ Ended n r i
last_exact n r l u i =
    (last_ends n r l u i, λ h. walk_ends n (n + letters r) (numbered n r) l (numbered_inside n r l) 0 i h.0 (word_walks n r l (h.0 ++ (i ∷ [])) h.1))

abbrev Full : Opened → Type 0
Full r = Useful r × Some r

any_of_full : (l : List ℕ) → Useful (any_of l) × (1 ≤ length l → Some (any_of l))
unfolding any_of
any_of_full [] = (tt, λ d. absurd (omega arith))
any_of_full (x ∷ l) = ((tt, (any_of_full l).0), λ d. inl tt)

full_kept : Kept Full
full_kept = record {
  joins = λ r s h g. ((h.0, g.0, h.1, g.1), (h.1, g.1));
  optionals = λ r h. (h.0, tt);
  stars = λ r h. (h.0, tt);
  pluses = λ r h. h;
  none = (tt, tt);
}

opened_full : (A : List ℕ) (t : Tree) → Sensible A t → Full (opened A t)
unfolding opened
opened_full A (set c) h = let x = any_of_full (labels_of_set A c) in (x.0, x.1 (omega (arith, labels_counted 1 A c)))
opened_full A (group r) h = opened_full A r h
opened_full A (times r c) h = repeated_kept Full full_kept (opened A r) (opened_full A r h.0) c
opened_full A (join r s) h = full_kept.joins (opened A r) (opened A s) (opened_full A r h.0) (opened_full A s h.1)
opened_full A (either r s) h = let x = opened_full A r h.0 in let y = opened_full A s h.1 in ((x.0, y.0), inl x.1)

pub tree_first : (A : List ℕ) (t : Tree) → Sensible A t → (i : ℕ) → ((automaton_of A t).follow 0 i ≡ true) ↔ Begun 1 (opened A t) i
unfolding position_automaton
tree_first A t h = first_exact 1 (opened A t) (omega arith) (opened_full A t h).0

pub tree_last : (A : List ℕ) (t : Tree) → Sensible A t → (i : ℕ) → ((automaton_of A t).ends (suc i) ≡ true) ↔ Ended 1 (opened A t) (suc i)
unfolding position_automaton
tree_last A t h i = last_exact 1 (opened A t) (omega arith) (opened_full A t h).0 (suc i)
