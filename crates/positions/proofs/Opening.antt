-- Opening a tree keeps its set of words.
use Prim.Native.Nat.{ℕ, zero, suc, ◌+◌, ◌-◌, ◌≤◌}
use Rattle.std.specs.Prelude.{◌≡◌, refl, ◌↔◌, List, [], ◌∷◌}
use Rattle.std.proofs.Common.{ap}
use Rattle.std.proofs.Math.Logic.{inl, inr}
use native.Mathlib.Omega.{arith}
use Rattle.lists.specs.Lists.{Among, Ascending}
use Rattle.alphabet.proofs.LabelsLaws.{labels_exactly, labels_in_order}
use Rattle.regex_tree.specs.Tree.{Set, Count, between, onward, Tree, set, group, times, join, either, member, Allows, Joined, HasLabel, Words}
use Rattle.regex_tree.proofs.OwnCountsLaws.{InRange}
use Rattle.regex_tree.proofs.SenseLaws.{Sensible}
use Rattle.positions.specs.Opened.{Opened, plus, labels_of_set, any_of, copies, nested, repeated, opened}
use Rattle.positions.specs.OpenedWords.{OpenedWords}

-- Sets.
any_of_out : (l w : List ℕ) → OpenedWords (any_of l) w → (x : ℕ) × Among x l × (w ≡ x ∷ [])
unfolding any_of
any_of_out [] w h = absurd h
any_of_out (y ∷ l) w (inl h) = (y, inl refl, h)
any_of_out (y ∷ l) w (inr h) = let x = any_of_out l w h in (x.0, inr x.1, x.2)

any_of_in : (l : List ℕ) (x : ℕ) → Among x l → OpenedWords (any_of l) (x ∷ [])
unfolding any_of
any_of_in [] x h = absurd h
any_of_in (y ∷ l) x (inl h) = inl (ap (λ k. k ∷ []) h)
any_of_in (y ∷ l) x (inr h) = inr (any_of_in l x h)

-- the labels of a set are those that it opens into
pub labels_in : (A : List ℕ) (c : Set) (x : ℕ) → Among x (labels_of_set A c) ↔ HasLabel A c x
labels_in A c x = labels_exactly A (member c) x

-- in label order, each once
pub labels_ascending : (A : List ℕ) (c : Set) → Ascending (labels_of_set A c)
labels_ascending A c = labels_in_order A (member c)

-- Repetitions. Joined words of a set are joined words of each larger set.
joined_map : (P Q : List ℕ → Type 0) → ((w : List ℕ) → P w → Q w) → (k : ℕ) (w : List ℕ) → Joined P k w → Joined Q k w
joined_map P Q f zero w h = h
joined_map P Q f (suc k) w h = (h.0, h.1, h.2, f h.0 h.3, joined_map P Q f k h.1 h.4)

-- If each word of r is in P, each word of a repetition is an allowed number of words of P joined; C holds of the numbers allowed for t.
module _ (r : Opened) (P : List ℕ → Type 0) (out : (w : List ℕ) → OpenedWords r w → P w) where
  copies_out :
      (t : Opened) (C : ℕ → Type 0) → ((v : List ℕ) → OpenedWords t v → (j : ℕ) × C j × Joined P j v)
      → (n : ℕ) (w : List ℕ) → OpenedWords (copies r n t) w → (k : ℕ) × (j : ℕ) × (k ≡ n + j) × C j × Joined P k w
  unfolding copies
  copies_out t C f zero w h = let x = f w h in (x.0, x.0, omega arith, x.1, x.2)
  copies_out t C f (suc n) w h =
      let x = copies_out t C f n h.1 h.4 in
      (suc x.0, x.1, omega (arith, x.2), x.3, (h.0, h.1, h.2, out h.0 h.3, x.4))

  nested_out : (m : ℕ) (w : List ℕ) → OpenedWords (nested r m) w → (j : ℕ) × (j ≤ m) × Joined P j w
  unfolding nested
  nested_out zero w h = (0, omega arith, h)
  nested_out (suc m) w (inl h) = (0, omega arith, h)
  nested_out (suc m) w (inr h) =
      let x = nested_out m h.1 h.4 in (suc x.0, omega (arith, x.1), (h.0, h.1, h.2, out h.0 h.3, x.2))

  plus_out : (w : List ℕ) → OpenedWords (plus r) w → (j : ℕ) × (1 ≤ j) × Joined P j w
  plus_out w h = (suc h.0, omega arith, joined_map (OpenedWords r) P out (suc h.0) w h.1)

  repeated_out : (c : Count) (w : List ℕ) → InRange c → OpenedWords (repeated r c) w → (k : ℕ) × Allows c k × Joined P k w
  unfolding repeated
  repeated_out (between n m) w o h =
      let x = copies_out (nested r (m - n)) (λ j. j ≤ m - n) (nested_out (m - n)) n w h in
      (x.0, omega (arith, x.2, x.3), x.4)
  repeated_out (onward zero) w o h = (h.0, omega arith, joined_map (OpenedWords r) P out h.0 w h.1)
  repeated_out (onward (suc n)) w o h =
      let x = copies_out (plus r) (λ j. 1 ≤ j) plus_out n w h in
      (x.0, omega (arith, x.2, x.3), x.4)

-- and conversely
module _ (r : Opened) (P : List ℕ → Type 0) (into : (w : List ℕ) → P w → OpenedWords r w) where
  copies_in :
      (t : Opened) (n k : ℕ) → n ≤ k → ((v : List ℕ) → Joined P (k - n) v → OpenedWords t v)
      → (w : List ℕ) → Joined P k w → OpenedWords (copies r n t) w
  unfolding copies
  copies_in t zero k l f w h = f w (let z : k - 0 ≡ k = omega arith in rw z h)
  copies_in t (suc n) zero l f w h = absurd (omega arith)
  copies_in t (suc n) (suc k) l f w h =
      let z : suc k - suc n ≡ k - n = omega arith in
      (h.0, h.1, h.2, into h.0 h.3, copies_in t n k (omega arith) (rw z at f) h.1 h.4)

  nested_in : (m j : ℕ) → j ≤ m → (w : List ℕ) → Joined P j w → OpenedWords (nested r m) w
  unfolding nested
  nested_in zero zero l w h = h
  nested_in (suc m) zero l w h = inl h
  nested_in zero (suc j) l w h = absurd (omega arith)
  nested_in (suc m) (suc j) l w h = inr (h.0, h.1, h.2, into h.0 h.3, nested_in m j (omega arith) h.1 h.4)

  plus_in : (j : ℕ) → 1 ≤ j → (w : List ℕ) → Joined P j w → OpenedWords (plus r) w
  plus_in zero l w h = absurd (omega arith)
  plus_in (suc j) l w h = (j, joined_map P (OpenedWords r) into (suc j) w h)

  repeated_in : (c : Count) (k : ℕ) → Allows c k → (w : List ℕ) → Joined P k w → OpenedWords (repeated r c) w
  unfolding repeated
  repeated_in (between n m) k a w h = copies_in (nested r (m - n)) n k a.0 (nested_in (m - n) (k - n) (omega arith)) w h
  repeated_in (onward zero) k a w h = (k, joined_map P (OpenedWords r) into k w h)
  repeated_in (onward (suc n)) k a w h = copies_in (plus r) n k (omega arith) (plus_in (k - n) (omega arith)) w h

words_opened : (A : List ℕ) (t : Tree) (w : List ℕ) → Words A t w → OpenedWords (opened A t) w
unfolding opened
words_opened A (set c) w h = rw h.2 (any_of_in (labels_of_set A c) h.0 ((labels_in A c h.0).1 h.1))
words_opened A (group r) w h = words_opened A r w h
words_opened A (times r c) w h = repeated_in (opened A r) (Words A r) (words_opened A r) c h.0 h.1 w h.2
words_opened A (join r s) w h = (h.0, h.1, h.2, words_opened A r h.0 h.3, words_opened A s h.1 h.4)
words_opened A (either r s) w (inl h) = inl (words_opened A r w h)
words_opened A (either r s) w (inr h) = inr (words_opened A s w h)

opened_words : (A : List ℕ) (t : Tree) → Sensible A t → (w : List ℕ) → OpenedWords (opened A t) w → Words A t w
unfolding opened
opened_words A (set c) o w h = let x = any_of_out (labels_of_set A c) w h in (x.0, (labels_in A c x.0).0 x.1, x.2)
opened_words A (group r) o w h = opened_words A r o w h
opened_words A (times r c) o w h = repeated_out (opened A r) (Words A r) (opened_words A r o.0) c w o.1 h
opened_words A (join r s) o w h = (h.0, h.1, h.2, opened_words A r o.0 h.0 h.3, opened_words A s o.1 h.1 h.4)
opened_words A (either r s) o w (inl h) = inl (opened_words A r o.0 w h)
opened_words A (either r s) o w (inr h) = inr (opened_words A s o.1 w h)

pub opening_keeps_words : (A : List ℕ) (t : Tree) → Sensible A t → (w : List ℕ) → Words A t w ↔ OpenedWords (opened A t) w
opening_keeps_words A t o w = (words_opened A t w, opened_words A t o w)
