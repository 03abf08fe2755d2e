-- The arrays after one character more of a line, and after its end.
use Prim.Native.Nat.{ℕ, suc, ◌+◌, ◌-◌, ◌<◌, ◌≤◌}
use Rattle.std.specs.Prelude.{◌≡◌, refl, Bool, true, cond, ◌&&◌, length}
use Rattle.std.proofs.Math.Path.{sym, ap, ap₂}
use Rattle.std.proofs.Common.{subst, ◌∙◌, ⊎_elim, arith, length-append}
use Rattle.std.proofs.Math.Bool.{false, ◌||◌, or-false}
use mathlib.Core.List.{List, [], ◌∷◌, ◌++◌, map, map-map, map-append, flat_map, append_assoc, append-nil}
use Rattle.std.proofs.Math.ListN.{get_or, length-map}
use Rattle.std.proofs.Math.Dec.{eqb}
use Rattle.lists.specs.Lists.{Among, any, same_list, lowest}
use Rattle.lists.proofs.AmongLaws.{any_among, among_any, any_append, among_at, among_left, among_append, among_flat, among_index, flat_among, flat_append, flat_one, map_at, map_same}
use Rattle.lists.proofs.LowestLaws.{lowest_same}
use Rattle.lists.proofs.OrderLaws.{not_both, never_true}
use Rattle.lists.proofs.SameLaws.{same_list_true, same_list_self}
use Rattle.alphabet.specs.Labels.{labels_of_character}
use Rattle.wordlist.specs.PrefixTree.{Prefix, whole, same_prefix, prefixes_from, prefixes, once, Letter, letter_with, letters_for, no_letter, letter_at}
use Rattle.wordlist.proofs.PrefixesLaws.{same_prefix_true, same_prefix_self, among_prefixes, prefixes_more, among_once, once_among, occurs}
use Rattle.wordlist.proofs.LettersLaws.{letters_for_is, letters_by, letters_more, read_at, read_next, letter_among}
use Rattle.wordlist_build.specs.declared.Trie.{Trie}
use Rattle.wordlist_build.specs.Arrays.{Roomy, leads_on, pushes, moved, MarksEnds}
use Rattle.wordlist_build.specs.ArraysLaws.{letters_pushes, holds_pushes, holds_moved}
use Rattle.wordlist_build.specs.Heads.{head_of, Present, Rooted, goes_on}
use Rattle.wordlist_build.specs.HeadsLaws.{same_last, head_most, head_some, head_reads, head_nothing, heads_same, letter_present, head_on, head_more, present_more, head_new}
use Rattle.wordlist_build.specs.Rows.{Row, entry, no_row, Holds, new_row}
use Rattle.wordlist_build.specs.State.{prefixes_read, letters_read, row_of, Shows, State}

-- A prefix has occurred exactly if it has a head.
module _ (A : List ℕ) (ps : List Prefix) (u : List ℕ) (c : ℕ) where
  abbrev next : Prefix
  next = record { before = u; character = c }

  abbrev ls : List Letter
  ls = letters_by A ps

  known : 1 ≤ head_of ls (u ++ (c ∷ [])) → occurs next ps ≡ true
  known s =
      let j = head_of ls (u ++ (c ∷ [])) in
      let z = letter_at ls j in
      let r = flat_among (letters_for A) z (once ps) (letter_among ls j s (head_most ls (u ++ (c ∷ [])))) in
      let is : z.prefix ≡ r.0 = ((letters_for_is A r.0 z).0 r.2).0 in
      let read = sym (read_at ls j s) ∙ head_reads ls (u ++ (c ∷ [])) s in
      among_any (λ p. same_prefix p next) z.prefix ps (once_among z.prefix ps (subst (λ p. Among p (once ps)) (sym is) r.1))
      (sym (same_last z.prefix.before u z.prefix.character c) ∙ ap (λ v. same_list v (u ++ (c ∷ []))) read ∙ same_list_self (u ++ (c ∷ [])))

  unknown : 1 ≤ length (labels_of_character A c) → head_of ls (u ++ (c ∷ [])) ≡ 0 → occurs next ps ≡ false
  unknown some z =
      never_true (occurs next ps) (λ e.
      let r = any_among (λ p. same_prefix p next) ps e in
      let m = among_once next ps (subst (λ p. Among p ps) (same_prefix_true r.0 next r.2) r.1) in
      let size = length-map (labels_of_character A c) (letter_with next) in
      let y = get_or (letters_for A next) 0 no_letter in
      let new = among_at no_letter (letters_for A next) 0 (omega arith) in
      let i = among_index no_letter y ls (among_flat (letters_for A) next y (once ps) m new) in
      let inside = i.1 in
      let is : whole y.prefix ≡ u ++ (c ∷ []) = ap whole ((letters_for_is A next y).0 new).0 in
      let h = head_some ls (u ++ (c ∷ [])) (suc i.0) (omega arith) (omega arith) (read_next ls i.0 ∙ ap (λ (x : Letter). whole x.prefix) i.2 ∙ is) in
      omega arith)

-- The letters with one character more.
module _ (ws : List (List ℕ)) (u : List ℕ) where
  read_more : (c : ℕ) → prefixes_read ws (u ++ (c ∷ [])) ≡ prefixes_read ws u ++ (record { before = u; character = c } ∷ [])
  read_more c =
      ap (λ l. flat_map prefixes ws ++ l) (prefixes_more [] u c) ∙ sym (append_assoc (flat_map prefixes ws) (prefixes u) (record { before = u; character = c } ∷ []))

  read_line : prefixes_read (ws ++ (u ∷ [])) [] ≡ prefixes_read ws u
  unfolding prefixes_from
  read_line = append-nil (flat_map prefixes (ws ++ (u ∷ []))) ∙ flat_append prefixes ws (u ∷ []) ∙ ap (λ l. flat_map prefixes ws ++ l) (flat_one prefixes u)

module _ (A : List ℕ) (ws : List (List ℕ)) (u : List ℕ) (c : ℕ) where
  abbrev old : List Letter
  old = letters_read A ws u

  abbrev prefix : Prefix
  prefix = record { before = u; character = c }

  abbrev longer : List ℕ
  longer = u ++ (c ∷ [])

  more : letters_read A ws longer ≡ cond (occurs prefix (prefixes_read ws u)) old (old ++ letters_for A prefix)
  more = ap (letters_by A) (read_more ws u c) ∙ letters_more A prefix (prefixes_read ws u)

  more_known : occurs prefix (prefixes_read ws u) ≡ true → letters_read A ws longer ≡ old
  more_known e = more ∙ ap (λ t. cond t old (old ++ letters_for A prefix)) e

  more_new : occurs prefix (prefixes_read ws u) ≡ false → letters_read A ws longer ≡ old ++ letters_for A prefix
  more_new e = more ∙ ap (λ t. cond t old (old ++ letters_for A prefix)) e

  no_fewer : length old ≤ length (letters_read A ws longer)
  no_fewer = subst (λ l. length old ≤ length l) (sym more) (by (occurs prefix (prefixes_read ws u)))
    where
      by : (t : Bool) → length old ≤ length (cond t old (old ++ letters_for A prefix))
      by true = omega arith
      by false = omega (arith, length-append old (letters_for A prefix))

  -- there were too many before
  pub character_over : (t : Trie) → 127 < t.letters → State A ws u t → State A ws longer t
  character_over t h s = let o = s.over h in let m = no_fewer in record { within = λ l. absurd (omega arith); over = λ l. omega arith }

  -- the letter that leads on is the head of what is then read
  found_head : (t : Trie) → Shows old ws u t → lowest (leads_on t c) t.letters ≡ head_of old longer
  found_head t s =
      let size = length-map old (row_of old ws) in
      let count : t.letters ≡ length old = s.holds.count ∙ size in
      ap (lowest (leads_on t c)) count
      ∙ lowest_same (leads_on t c) (length old) (goes_on old u c)
      (λ j l h.
      let e = s.holds.at (j - 1) (omega arith) ∙ map_at (row_of old ws) old (j - 1) no_letter no_row (omega arith) in
      ap₂ ◌&&◌ (ap₂ eqb (ap (λ (x : Row). x.parent) e) s.place) (ap (λ (x : Row). eqb x.character c) e))
      ∙ head_on old u c s.rooted s.here

  -- it is there
  pub character_known : (t : Trie) (j : ℕ) → t.letters ≤ 127 → j ≡ lowest (leads_on t c) t.letters → 0 < j → State A ws u t → State A ws longer (moved t j)
  character_known t j few is some h =
      let s = h.within few in
      let head : j ≡ head_of old longer = is ∙ found_head t s in
      record {
        within = λ l. subst (λ k. Shows k ws longer (moved t j)) (sym (more_known (known A (prefixes_read ws u) u c (omega arith))))
            (record { holds = holds_moved t j (map (row_of old ws) old) s.holds; place = head; rooted = s.rooted; here = λ z. absurd (omega arith) });
        over = λ l. absurd (omega arith);
      }

  -- it is new
  module _ (t : Trie) (few : t.letters ≤ 127) (none : 0 ≡ lowest (leads_on t c) t.letters) (some : 1 ≤ length (labels_of_character A c)) (h : State A ws u t) where
    abbrev shown : Shows old ws u t
    shown = h.within few

    head_zero : head_of old longer ≡ 0
    head_zero = sym (none ∙ found_head t shown)

    is_new : occurs prefix (prefixes_read ws u) ≡ false
    is_new = unknown A (prefixes_read ws u) u c some head_zero

    count : t.letters ≡ length old
    count = shown.holds.count ∙ length-map old (row_of old ws)

    abbrev new : List Letter
    new = letters_for A prefix

    news : length new ≡ length (labels_of_character A c)
    news = length-map (labels_of_character A c) (letter_with prefix)

    -- and does not fit
    pub character_full : (r : Trie) → 127 < t.letters + length (labels_of_character A c) → r.letters ≡ 128 → State A ws longer r
    character_full r m e =
        let size = length-append old new in
        let n = news in
        let k = count in
        record { within = λ l. absurd (omega arith); over = λ l. subst (λ l. 127 < length l) (sym (more_new is_new)) (omega arith) }

    -- no word ended there
    no_end : any (same_list longer) ws ≡ false
    no_end =
        never_true (any (same_list longer) ws) (λ e.
        let r = any_among (same_list longer) ws e in
        let w = same_list_true longer r.0 r.2 in
        let m = among_flat prefixes r.0 prefix ws r.1 (subst (λ v. Among prefix (prefixes v)) w (among_prefixes [] u [] c)) in
        not_both (occurs prefix (prefixes_read ws u))
        (among_any (λ p. same_prefix p prefix) prefix (prefixes_read ws u) (among_left prefix (flat_map prefixes ws) (prefixes u) m) (same_prefix_self prefix)) is_new)

    abbrev grown : List Letter
    grown = old ++ new

    new_prefix : (z : Letter) → Among z new → z.prefix ≡ prefix
    new_prefix z m = ((letters_for_is A prefix z).0 m).0

    head_next : head_of grown longer ≡ t.letters + 1
    head_next =
        let n = news in
        head_new old new longer head_zero (omega arith) (λ z m. ap whole (new_prefix z m)) ∙ ap (λ n. n + 1) (sym count)

    old_rows : map (row_of grown ws) old ≡ map (row_of old ws) old
    old_rows =
        map_same (row_of grown ws) (row_of old ws) old (λ z m.
        ap₂ (λ p h. record { label = z.label; character = z.prefix.character; parent = p; head = h; last = any (same_list (whole z.prefix)) ws })
        (head_more old new z.prefix.before (shown.rooted z m))
        (head_more old new (whole z.prefix) (letter_present old z m)))

    new_rows : map (row_of grown ws) new ≡ map (new_row c t.at (t.letters + 1)) (labels_of_character A c)
    new_rows =
        map-map (row_of grown ws) (letter_with prefix) (labels_of_character A c)
        ∙ map_same (λ x. row_of grown ws (letter_with prefix x)) (new_row c t.at (t.letters + 1)) (labels_of_character A c) (λ x m. row x)
      where
        row : (x : ℕ) → row_of grown ws (letter_with prefix x) ≡ new_row c t.at (t.letters + 1) x
        row x =
            let p : head_of grown u ≡ t.at = head_more old new u shown.here ∙ sym shown.place in
            ap (λ e. record { label = x; character = c; parent = head_of grown u; head = head_of grown longer; last = e }) no_end
            ∙ ap₂ (λ p h. record { label = x; character = c; parent = p; head = h; last = false }) p head_next

    still_rooted : Rooted grown
    still_rooted z m =
        ⊎_elim (λ o. present_more old new z.prefix.before (shown.rooted z o))
        (λ n. subst (λ (p : Prefix). Present grown p.before) (sym (new_prefix z n)) (present_more old new u shown.here))
        (among_append z old new m)

    -- its letters come after the others
    pub character_new :
        Roomy t → t.letters + length (labels_of_character A c) ≤ 127 → State A ws longer (moved (pushes t c (t.letters + 1) (labels_of_character A c)) (t.letters + 1))
    character_new roomy fits =
        let n = letters_pushes t c (t.letters + 1) (labels_of_character A c) in
        let after = pushes t c (t.letters + 1) (labels_of_character A c) in
        record {
          within = λ l. subst (λ k. Shows k ws longer (moved after (t.letters + 1))) (sym (more_new is_new))
              (record {
                holds =
                    holds_moved after (t.letters + 1) (map (row_of grown ws) grown)
                    (subst (Holds after) (sym (map-append (row_of grown ws) old new ∙ ap₂ ◌++◌ old_rows new_rows))
                    (holds_pushes t (map (row_of old ws) old) c (t.letters + 1) (labels_of_character A c) roomy fits shown.holds));
                place = sym head_next;
                rooted = still_rooted;
                here = λ z. let e = head_next in absurd (omega arith);
              });
          over = λ l. absurd (omega arith);
        }

-- The end of a line.
module _ (A : List ℕ) (ws : List (List ℕ)) (u : List ℕ) where
  line_letters : letters_read A (ws ++ (u ∷ [])) [] ≡ letters_read A ws u
  line_letters = ap (letters_by A) (read_line ws u)

  pub line_over : (t : Trie) → 127 < t.letters → State A ws u t → State A (ws ++ (u ∷ [])) [] t
  line_over t h s = record { within = λ l. absurd (omega arith); over = λ l. subst (λ l. 127 < length l) (sym line_letters) (s.over h) }

  -- with the marks that end a word
  abbrev ended : Trie → List Bool → Trie
  ended t marks = record {
    letters = t.letters;
    at = 0;
    labels = t.labels;
    characters = t.characters;
    parents = t.parents;
    heads = t.heads;
    last = marks;
  }

  module _ (t : Trie) (marks : List Bool) (few : t.letters ≤ 127) (marked : MarksEnds t.letters t.heads t.last t.at marks) (s : State A ws u t) where
    abbrev all : List Letter
    all = letters_read A ws u

    abbrev shows : Shows all ws u t
    shows = s.within few

    abbrev later : List (List ℕ)
    later = ws ++ (u ∷ [])

    row_ended : (i : ℕ) → i < length all → entry (ended t marks) i ≡ row_of all later (get_or all i no_letter)
    row_ended i l =
        let z = get_or all i no_letter in
        let size = length-map all (row_of all ws) in
        let count = shows.holds.count in
        let e : entry t i ≡ row_of all ws z = shows.holds.at i (omega arith) ∙ map_at (row_of all ws) all i no_letter no_row l in
        let same_end : eqb (get_or t.heads i 0) t.at ≡ same_list (whole z.prefix) u =
        ap₂ eqb (ap (λ (x : Row). x.head) e) shows.place ∙ heads_same all (whole z.prefix) u (letter_present all z (among_at no_letter all i l)) shows.here in
        let end : get_or marks i false ≡ any (same_list (whole z.prefix)) later =
        marked.at i (omega arith) ∙ ap₂ ◌||◌ (ap (λ (x : Row). x.last) e) same_end ∙ sym (any_last (same_list (whole z.prefix)) ws u) in
        ap (λ (x : Row). record { label = x.label; character = x.character; parent = x.parent; head = x.head; last = get_or marks i false }) e
        ∙ ap (λ m. record { label = z.label; character = z.prefix.character; parent = head_of all z.prefix.before; head = head_of all (whole z.prefix); last = m }) end
      where
        any_last : (p : List ℕ → Bool) (xs : List (List ℕ)) (y : List ℕ) → any p (xs ++ (y ∷ [])) ≡ (any p xs || p y)
        any_last p xs y = any_append p xs (y ∷ []) ∙ ap (λ b. any p xs || b) (or-false (p y))

    pub line_marked : State A later [] (ended t marks)
    line_marked =
        let before = length-map all (row_of all ws) in
        let size = length-map all (row_of all later) in
        record {
          within = λ l. subst (λ k. Shows k later [] (ended t marks)) (sym line_letters)
              (record {
                holds = record {
                  count = shows.holds.count ∙ before ∙ sym size;
                  at = λ i l. row_ended i (omega arith) ∙ sym (map_at (row_of all later) all i no_letter no_row (omega arith));
                };
                place = sym (head_nothing all);
                rooted = shows.rooted;
                here = λ z. refl;
              });
          over = λ l. absurd (omega arith);
        }
