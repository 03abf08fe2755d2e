-- Small sets of words: a range goes by byte value, a complement stays within the alphabet, a repetition joins as many words as it
-- allows, `|` means either side, a character means all its labels.
use Rattle.std.specs.Prelude.{◌≡◌, refl, ◌↔◌, List, [], ◌∷◌, true, ℕ, zero, suc, ◌-◌, ◌+◌, ◌≤◌, length, get_or}
use Rattle.std.proofs.Common.{ap, ◌∙◌, inl, inr, arith, length-append}
use Rattle.lists.specs.Cases.{first_of}
use Rattle.lists.specs.Lists.{Among}
use Rattle.text.specs.Bytes.{bytes}
use Rattle.alphabet.specs.Labels.{Label, character}
use Rattle.regex_tree.specs.Tree.{range, Count, between, onward, Set, only, except, member, Tree, set, times, join, either, Allows, Joined, Words}
use Rattle.regex_tree.specs.Sets.{alone, a_set}
use Rattle.regex_tree.specs.Grammar.{WordsOf}
use Rattle.regex_tree.specs.Characters.{CharacterWords}
use Rattle.regex_tree.proofs.ClassLaws.{character_words}

-- `[a-b]` over `ba` has both labels
by_value : Words (bytes "ba") (set (only (range 97 98 ∷ []))) (1 ∷ []) × Words (bytes "ba") (set (only (range 97 98 ∷ []))) (2 ∷ [])
by_value = ((1, ((omega arith, omega arith), refl), refl), (2, ((omega arith, omega arith), refl), refl))

-- `[^a]` over `ab` means b alone
complement : (w : List ℕ) → Words (bytes "ab") (set (except (range 97 97 ∷ []))) w ↔ (w ≡ 2 ∷ [])
complement w =
    (λ h. h.2 ∙ ap (λ (x : ℕ). x ∷ []) (by h.0 h.1.0.0 h.1.0.1 h.1.1), λ e. (2, ((omega arith, omega arith), refl), e))
  where
    by : (x : ℕ) → 1 ≤ x → x ≤ 2 → member (except (range 97 97 ∷ [])) (get_or (bytes "ab") (x - 1) 0) ≡ true → x ≡ 2
    by zero l m e = absurd (omega arith)
    by (suc zero) l m e = let z : ◌≡◌ {A = ℕ} 0 1 = cc in absurd (omega arith)
    by (suc (suc zero)) l m e = refl
    by (suc (suc (suc x))) l m e = absurd (omega arith)

-- the words of a repeated set have as many letters as the repetition allows
module _ (A : List ℕ) (c : Set) where
  joined_length : (k : ℕ) (w : List ℕ) → Joined (Words A (set c)) k w → length w ≡ k
  joined_length zero w h = ap length h
  joined_length (suc k) w h =
      let a : length h.0 ≡ 1 = ap length h.3.2 in
      let b : length h.1 ≡ k = joined_length k h.1 h.4 in
      let e : length w ≡ length h.0 + length h.1 = ap length h.2 ∙ length-append h.0 h.1 in
      omega arith

  repeated_length : (k : Count) (w : List ℕ) → Words A (times (set c) k) w → Allows k (length w)
  repeated_length k w h = rw (joined_length h.0 w h.2) h.1

one_a : Words (bytes "ab") (set (alone 97)) (1 ∷ [])
one_a = (1, ((omega arith, omega arith), refl), refl)

-- `a{1,2}` means a and aa, but neither the empty word nor aaa
one_or_two : (w : List ℕ) → Type 0
one_or_two w = Words (bytes "ab") (times (set (alone 97)) (between 1 2)) w

counted : one_or_two (1 ∷ []) × one_or_two (1 ∷ 1 ∷ []) × (one_or_two [] → ⊥) × (one_or_two (1 ∷ 1 ∷ 1 ∷ []) → ⊥)
unfolding one_or_two
counted = (
  (1, (omega arith, omega arith), (1 ∷ [], [], refl, one_a, refl)),
  (2, (omega arith, omega arith), (1 ∷ [], 1 ∷ [], refl, one_a, (1 ∷ [], [], refl, one_a, refl))),
  λ h. let l = repeated_length (bytes "ab") (alone 97) (between 1 2) [] h in omega (arith, l.0),
  λ h. let l = repeated_length (bytes "ab") (alone 97) (between 1 2) (1 ∷ 1 ∷ 1 ∷ []) h in omega (arith, l.1),
)

-- `a*` has the empty word, `a+` has not
empty_word : Words (bytes "ab") (times (set (alone 97)) (onward 0)) [] × (Words (bytes "ab") (times (set (alone 97)) (onward 1)) [] → ⊥)
empty_word = ((0, omega arith, refl), λ h. let l = repeated_length (bytes "ab") (alone 97) (onward 1) [] h in omega arith)

-- `ab|b` has b
either_side : Words (bytes "ab") (either (join (set (alone 97)) (set (alone 98))) (set (alone 98))) (2 ∷ [])
either_side = inr (2, ((omega arith, omega arith), refl), refl)

-- over `77` a list of any two labels is a word of `77`
abbrev sevens : Tree
sevens = join (set (alone 55)) (set (alone 55))

two_sevens : Words (bytes "77") sevens (1 ∷ 2 ∷ []) × Words (bytes "77") sevens (2 ∷ 2 ∷ []) × CharacterWords (bytes "77") sevens (bytes "77")
two_sevens = (
  (1 ∷ [], 2 ∷ [], refl, (1, ((omega arith, omega arith), refl), refl), (2, ((omega arith, omega arith), refl), refl)),
  (2 ∷ [], 2 ∷ [], refl, (2, ((omega arith, omega arith), refl), refl), (2, ((omega arith, omega arith), refl), refl)),
  (55 ∷ [], 55 ∷ [], refl, (55, (inl refl, refl), refl), (55, (inl refl, refl), refl)),
)

-- `7` means the labels of 7 over any alphabet
seven : (A : List ℕ) (x : ℕ) → WordsOf A (bytes "7") (x ∷ []) ↔ (Label A x × (character A x ≡ 55))
unfolding a_set first_of
seven A x = character_words A (bytes "7") 55 refl refl x

-- `[^7]` over `7a7` means a alone: no label of 7 is left
others : (v : List ℕ) → CharacterWords (bytes "7a7") (set (except (range 55 55 ∷ []))) v ↔ (v ≡ bytes "a")
others v = (λ h. h.2 ∙ ap (λ (b : ℕ). b ∷ []) (by h.0 h.1.0 h.1.1), λ e. (97, (inr (inl refl), refl), e))
  where
    by : (b : ℕ) → Among b (bytes "7a7") → member (except (range 55 55 ∷ [])) b ≡ true → b ≡ 97
    by b (inl q) e = let k = rw q at e in let z : ◌≡◌ {A = ℕ} 0 1 = cc in absurd (omega arith)
    by b (inr (inl q)) e = q
    by b (inr (inr (inl q))) e = let k = rw q at e in let z : ◌≡◌ {A = ℕ} 0 1 = cc in absurd (omega arith)
    by b (inr (inr (inr q))) e = absurd q
