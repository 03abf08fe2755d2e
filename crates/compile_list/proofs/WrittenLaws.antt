-- The arrays that `wordlist_build` gives, with the rows of letters that follow, tell the prefix tree; so what is written from them is its form.
use Rattle.std.specs.Prelude.{ℕ, ◌-◌, ◌<◌, ◌≤◌, ◌≡◌, refl, Bool, false, ◌&&◌, length, get_or, eqb, ltb}
use Rattle.std.proofs.Math.Path.{sym, ap}
use Rattle.std.proofs.Common.{ap₂, subst, ◌∙◌, arith, lt-ltb, le-ltb, eqb-true, eq-eqb}
use mathlib.Core.List.{List, [], ◌∷◌, flat_map, append-nil}
use Rattle.std.proofs.lemmas.List.{length-map}
use Rattle.lists.specs.Lists.{any, same_list, in_range}
use Rattle.lists.proofs.AmongLaws.{map_at}
use Rattle.lists.proofs.OrderLaws.{same_truth}
use Rattle.lists.proofs.RangeLaws.{range_inside}
use Rattle.refusal.specs.declared.Refusal.TheVariants.{Letters, FormMemory}
use Rattle.refusal.specs.Verdict.{refused, check, unless}
use Rattle.refusal.proofs.VerdictLaws.{unless_holds, unless_fails}
use Rattle.automaton.specs.Form.{encode}
use Rattle.automaton.specs.Arrays.{has, arrayed, Tells}
use Rattle.form_encode.specs.Call.{form_call}
use Rattle.form_encode.specs.PartsLaws.{told_form}
use Rattle.wordlist.specs.Words.{words}
use Rattle.wordlist.proofs.WordsLaws.{none_empty}
use Rattle.wordlist.specs.PrefixTree.{whole, prefixes, prefixes_from, Letter, letters_in, no_letter, letter_at, prefix_read_at, prefix_tree, list_form}
use Rattle.wordlist.proofs.LettersLaws.{letters_by, read_at, letter_among}
use Rattle.wordlist_build.specs.declared.Trie.{Trie}
use Rattle.wordlist_build.specs.Heads.{head_of}
use Rattle.wordlist_build.specs.HeadsLaws.{head_nothing, heads_same, present_nothing, letter_present}
use Rattle.wordlist_build.specs.Rows.{Row, no_row, entry}
use Rattle.wordlist_build.specs.State.{letters_read, row_of, Shows, Readable, Builds}
use Rattle.compile_list.specs.FollowRows.{RowAfter, RowsAfter}
use Rattle.compile_list.specs.Call.{formed}

eqb_turned : (a b : ℕ) → eqb a b ≡ eqb b a
eqb_turned a b = same_truth (eqb a b) (eqb b a) (λ e. eq-eqb b a (sym (eqb-true a b e))) (λ e. eq-eqb a b (sym (eqb-true b a e)))

pub tree_letters : (A : List ℕ) (ws : List (List ℕ)) → (prefix_tree A ws).letters ≡ length (letters_in A ws)
unfolding prefix_tree
tree_letters A ws = refl

-- after the last line the letters so far are all
letters_all : (A : List ℕ) (ws : List (List ℕ)) → letters_read A ws [] ≡ letters_in A ws
unfolding letters_in prefixes_from
letters_all A ws = ap (letters_by A) (append-nil (flat_map prefixes ws))

module _ (A : List ℕ) (ws : List (List ℕ)) (t : Trie) (shows : Shows (letters_in A ws) ws [] t) where
  abbrev ls : List Letter
  ls = letters_in A ws

  count : t.letters ≡ length ls
  count = shows.holds.count ∙ length-map ls (row_of ls ws)

  row_at : (j : ℕ) → 1 ≤ j → j ≤ length ls → entry t (j - 1) ≡ row_of ls ws (letter_at ls j)
  row_at j l h =
      let n = length-map ls (row_of ls ws) in
      shows.holds.at (j - 1) (omega arith) ∙ map_at (row_of ls ws) ls (j - 1) no_letter no_row (omega arith)

  inside : (j : ℕ) (b : Bool) → 1 ≤ j → j ≤ length ls → (in_range 1 (length ls) j && b) ≡ b
  inside j b l h = ap (λ t. t && b) (range_inside 1 (length ls) j l h)

  -- a letter follows where the head of what is before it is the head of what has been read
  follow_heads :
      (v : List ℕ) (head j : ℕ) → head ≡ head_of ls v → (head_of ls v ≡ 0 → v ≡ []) → 1 ≤ j → j ≤ length ls
      → same_list v (letter_at ls j).prefix.before ≡ eqb (get_or t.parents (j - 1) 0) head
  follow_heads v head j e present l h =
      let before = (letter_at ls j).prefix.before in
      sym (heads_same ls v before present (shows.rooted (letter_at ls j) (letter_among ls j l h)))
      ∙ eqb_turned (head_of ls v) (head_of ls before)
      ∙ ap₂ eqb (sym (ap (λ (x : Row). x.parent) (row_at j l h))) (sym e)

  module _ (empty : any (same_list []) ws ≡ false) (first : List Bool) (follow : List (List Bool)) (firsts : RowAfter t.letters t.parents 0 first) (rows : RowsAfter t.letters t.parents t.heads follow) where
    begins : (j : ℕ) → 1 ≤ j → j ≤ length ls → (prefix_tree A ws).follow 0 j ≡ has first j
    unfolding prefix_tree prefix_read_at
    begins j l h =
        let n = count in
        inside j (same_list [] (letter_at ls j).prefix.before) l h
        ∙ follow_heads [] 0 j (sym (head_nothing ls)) (present_nothing ls) l h
        ∙ sym (firsts.at (j - 1) (omega arith))

    arc : (i j : ℕ) → 1 ≤ i → i ≤ length ls → 1 ≤ j → j ≤ length ls → (prefix_tree A ws).follow i j ≡ has (get_or follow (i - 1) []) j
    unfolding prefix_tree
    arc i j l h m k =
        let n = count in
        let z = letter_at ls i in
        let v = whole z.prefix in
        inside j (same_list (prefix_read_at ls i) (letter_at ls j).prefix.before) m k
        ∙ ap (λ u. same_list u (letter_at ls j).prefix.before) (read_at ls i l)
        ∙ follow_heads v (get_or t.heads (i - 1) 0) j (ap (λ (x : Row). x.head) (row_at i l h)) (letter_present ls z (letter_among ls i l h)) m k
        ∙ sym ((rows.row (i - 1) (omega arith)).at (j - 1) (omega arith))

    ends : (i : ℕ) → 1 ≤ i → i ≤ length ls → (prefix_tree A ws).ends i ≡ has t.last i
    unfolding prefix_tree
    ends i l h = ap (λ v. any (same_list v) ws) (read_at ls i l) ∙ sym (ap (λ (x : Row). x.last) (row_at i l h))

    tells : Tells (prefix_tree A ws) false t.labels first t.last follow
    unfolding prefix_tree prefix_read_at
    tells =
        record {
          accepted = empty;
          label = λ j l h. sym (ap (λ (x : Row). x.label) (row_at j l h));
          begins = begins;
          ends = ends;
          arc = arc;
        }

    pub told : encode (length A) (arrayed t.letters false t.labels first t.last follow) ≡ list_form A ws
    told =
        ap (λ n. encode (length A) (arrayed n false t.labels first t.last follow)) (count ∙ sym (tree_letters A ws))
        ∙ told_form false t.labels first t.last follow (length A) (prefix_tree A ws) tells

-- what the arrays that were built say of the list's words
module _ (A s : List ℕ) (r : Readable A s) (t : Trie) (b : Builds A s t) (room : ℕ) where
  abbrev memory : List ℕ → Bool
  memory f = ltb room (length f)

  pub too_many : 127 < t.letters → formed A room (words s) ≡ refused Letters
  too_many h =
      unless_holds (list_form A (words s)) (ltb 127 (length (letters_in A (words s)))) Letters (check (memory (list_form A (words s))) FormMemory ∷ [])
      (lt-ltb 127 (length (letters_in A (words s))) (subst (λ l. 127 < length l) (letters_all A (words s)) (b.state.over h)))

  module _ (few : t.letters ≤ 127) (first : List Bool) (follow : List (List Bool)) (firsts : RowAfter t.letters t.parents 0 first) (rows : RowsAfter t.letters t.parents t.heads follow) where
    shown : Shows (letters_in A (words s)) (words s) [] t
    shown = subst (λ l. Shows l (words s) [] t) (letters_all A (words s)) (b.state.within few)

    pub written_form : form_call (length A) (arrayed t.letters false t.labels first t.last follow) room ≡ formed A room (words s)
    unfolding form_call
    written_form =
        let n = count A (words s) t shown in
        let f = list_form A (words s) in
        ap (λ f. unless (check (memory f) FormMemory ∷ []) f) (told A (words s) t shown (none_empty s r.no_fault) first follow firsts rows)
        ∙ sym
        (unless_fails f (ltb 127 (length (letters_in A (words s)))) Letters (check (memory f) FormMemory ∷ [])
        (le-ltb 127 (length (letters_in A (words s))) (omega arith)))
