-- Laws of the letters of a word list: which there are, that no two are the same, and how they are numbered.
use Prim.Native.Nat.{ℕ, zero, suc, ◌-◌, ◌≤◌, ◌<◌}
use Rattle.std.specs.Prelude.{◌≡◌, Bool, true, false, cond, ◌↔◌, length, get_or, eqb}
use Rattle.std.proofs.Math.Path.{refl, ap}
use Rattle.std.proofs.Common.{sym, subst, ◌∙◌, arith}
use mathlib.Core.List.{List, [], ◌∷◌, ◌++◌, map, flat_map}
use Rattle.lists.specs.Lists.{Among, Ascending, Distinct}
use Rattle.lists.proofs.AmongLaws.{among_at, among_each, each_among, among_map, map_among, among_flat, flat_among, flat_append, flat_one}
use Rattle.lists.proofs.DistinctLaws.{distinct_append}
use Rattle.alphabet.specs.Labels.{Label, character, labels_of_character}
use Rattle.alphabet.proofs.LabelsLaws.{label_of, labels_in_order}
use Rattle.wordlist.specs.PrefixTree.{Prefix, whole, prefixes, once, prefixes_of, Letter, letter_with, letters_for, letters_in, no_letter, letter_at, prefix_read_at}
use Rattle.wordlist.proofs.PrefixesLaws.{prefixes_of_exactly, once_distinct, occurs, once_more, once_longer}

-- the letters of a prefix, one for each label of its last character
pub letters_for_is : (A : List ℕ) (p : Prefix) (z : Letter) → Among z (letters_for A p) ↔ ((z.prefix ≡ p) × Label A z.label × (character A z.label ≡ p.character))
letters_for_is A p z = (
  λ m.
      let r = map_among (letter_with p) z (labels_of_character A p.character) m in
      subst (λ (y : Letter). (y.prefix ≡ p) × Label A y.label × (character A y.label ≡ p.character)) (sym r.2)
      (refl, ((label_of A p.character r.0).0 r.1).0, ((label_of A p.character r.0).0 r.1).1),
  λ h.
      subst (λ q. Among (letter_with q z.label) (letters_for A p)) (sym h.0)
      (among_map (letter_with p) z.label (labels_of_character A p.character) ((label_of A p.character z.label).1 (h.1, h.2))),
)

module _ (A : List ℕ) (ws : List (List ℕ)) where
  -- The letters are the prefixes of the words, each with every label of its last character.
  pub letters_exactly :
      (z : Letter)
      → Among z (letters_in A ws)
      ↔ (((v : List ℕ) × Among (whole z.prefix ++ v) ws) × Label A z.label × (character A z.label ≡ z.prefix.character))
  unfolding letters_in
  letters_exactly z = (
    λ m.
        let r = flat_among (letters_for A) z (prefixes_of ws) m in
        let q = (letters_for_is A r.0 z).0 r.2 in
        ((prefixes_of_exactly z.prefix ws).0 (subst (λ p. Among p (prefixes_of ws)) (sym q.0) r.1), q.1, q.2 ∙ ap (λ (p : Prefix). p.character) (sym q.0)),
    λ h.
        among_flat (letters_for A) z.prefix z (prefixes_of ws) ((prefixes_of_exactly z.prefix ws).1 h.0)
        ((letters_for_is A z.prefix z).1 (refl, h.1, h.2)),
  )

-- Distinct prefixes with the labels of their characters, which ascend, give distinct letters.
ascending_letters : (p : Prefix) (xs : List ℕ) → Ascending xs → Distinct (map (letter_with p) xs)
ascending_letters p [] h = tt
ascending_letters p (x ∷ xs) h = (
  among_each (λ (z : Letter). letter_with p x ≡ z → ⊥) (map (letter_with p) xs)
      (λ z m e.
      let r = map_among (letter_with p) z xs m in
      let l = each_among (λ y. x < y) r.0 xs h.0 r.1 in
      let q : x ≡ r.0 = ap (λ (y : Letter). y.label) (e ∙ r.2) in
      omega arith),
  ascending_letters p xs h.1,
)

distinct_letters : (A : List ℕ) (ps : List Prefix) → Distinct ps → Distinct (flat_map (letters_for A) ps)
unfolding flat_map
distinct_letters A [] h = tt
distinct_letters A (p ∷ ps) h =
    distinct_append (letters_for A p) (flat_map (letters_for A) ps)
    (ascending_letters p (labels_of_character A p.character) (labels_in_order A (λ b. eqb b p.character)))
    (distinct_letters A ps h.1)
    (λ y z m n e.
    let r = flat_among (letters_for A) z ps n in
    let q = ((letters_for_is A p y).0 m).0 in
    let s = ((letters_for_is A r.0 z).0 r.2).0 in
    each_among (λ (o : Prefix). p ≡ o → ⊥) r.0 ps h.0 r.1 (sym q ∙ ap (λ (x : Letter). x.prefix) e ∙ s))

-- "Shared beginnings use the same letters": no two letters have the same prefix and the same label.
pub letters_distinct : (A : List ℕ) (ws : List (List ℕ)) → Distinct (letters_in A ws)
unfolding letters_in
letters_distinct A ws = distinct_letters A (prefixes_of ws) (once_distinct (flat_map prefixes ws))

-- the letters of the prefixes that have occurred
abbrev pub letters_by : List ℕ → List Prefix → List Letter
letters_by A ps = flat_map (letters_for A) (once ps)

-- "Letters are numbered as they first occur in the list": those of one prefix more come last, or are there already.
pub letters_more :
    (A : List ℕ) (q : Prefix) (ps : List Prefix) → letters_by A (ps ++ (q ∷ [])) ≡ cond (occurs q ps) (letters_by A ps) (letters_by A ps ++ letters_for A q)
letters_more A q ps = ap (flat_map (letters_for A)) (once_more q ps) ∙ by (occurs q ps)
  where
    by : (b : Bool) → flat_map (letters_for A) (cond b (once ps) (once ps ++ (q ∷ []))) ≡ cond b (letters_by A ps) (letters_by A ps ++ letters_for A q)
    by true = refl
    by false = flat_append (letters_for A) (once ps) (q ∷ []) ∙ ap (λ l. letters_by A ps ++ l) (flat_one (letters_for A) q)

-- Words at the end of a list change no number: the letters of the words before them are the first ones.
pub letters_longer : (A : List ℕ) (ws vs : List (List ℕ)) → (new : List Letter) × (letters_in A (ws ++ vs) ≡ letters_in A ws ++ new)
unfolding letters_in
letters_longer A ws vs =
    let r = once_longer (flat_map prefixes vs) (flat_map prefixes ws) in (
      flat_map (letters_for A) r.0,
      ap (letters_by A) (flat_append prefixes ws vs) ∙ ap (flat_map (letters_for A)) r.1 ∙ flat_append (letters_for A) (prefixes_of ws) r.0,
    )

-- what has been read at a letter
module _ (ls : List Letter) where
  pub read_at : (j : ℕ) → 1 ≤ j → prefix_read_at ls j ≡ whole (letter_at ls j).prefix
  unfolding prefix_read_at
  read_at zero l = absurd (omega arith)
  read_at (suc j) l = refl

  pub read_next : (i : ℕ) → prefix_read_at ls (suc i) ≡ whole (get_or ls i no_letter).prefix
  read_next i = let e : suc i - 1 ≡ i = omega arith in read_at (suc i) (omega arith) ∙ ap (λ n. whole (get_or ls n no_letter).prefix) e

  pub letter_among : (j : ℕ) → 1 ≤ j → j ≤ length ls → Among (letter_at ls j) ls
  letter_among j l h = among_at no_letter ls (j - 1) (omega arith)
