-- What each function of the cycle answers, from what the functions that it calls answer: one lemma for each return.
use Rattle.std.proofs.Math.Path.{◌≡◌, refl, sym, ap}
use Rattle.std.proofs.Common.{ap₂, ◌∙◌, eqb-true, eq-eqb, ne_eqb}
use Rattle.std.specs.Prelude.{List, Bool, false, cond, get_or, eqb}
use Rattle.std.proofs.Math.Bool.{true}
use Prim.Native.Nat.{ℕ, zero, suc, ◌+◌, ◌-◌}
use Prim.Native.Char.{code}
use native.Mathlib.Omega.{arith}
use Rattle.std.proofs.Math.ListN.{drop}
use Rattle.refusal.specs.declared.Refusal.{Refusal}
use Rattle.refusal.specs.declared.Refusal.TheVariants as refusal
use Rattle.regex_tree.specs.Tree.{Count, between, onward, Tree, group, times, join, either}
use Rattle.regex_tree.specs.Parsing.{Parsing, found, fault, then}
use Rattle.text.specs.Text.{next, rest}
use Rattle.text.specs.Places.{place}
use Rattle.regex_tree.specs.Letters.{copies_of, letter_count}
use Rattle.regex_tree.proofs.SenseLaws.{few_add}
use Rattle.regex_tree.specs.Few.{few}
use Rattle.regex_tree.specs.Repetition.{repeats, repetition}
use Rattle.regex_tree.specs.Parse.{Mode, m_alternation, m_branch, m_piece, m_group, ends, grouped, step, parse}
use Rattle.regex_tree.proofs.StepsLaws.{parse_step}
use Rattle.regex_set.specs.declared.Part.{Part}
use Rattle.std.specs.Prelude.{Result, Ok, Err}
use Rattle.text.proofs.TextLaws.{place_drop, next_at, rest_at, byte_is}
use Rattle.regex_set.specs.Answers.{part, part_of, set_tree}
use Rattle.regex_repetition.specs.Answers.{repeats_of}
use Rattle.regex_count.specs.SumsLaws.{few_times}
use Rattle.regex_count.specs.Parts.{add, repeated, closed}
use Rattle.regex_parse.specs.PartsLaws.{part_at, Found, part_found}

module _ (A text : List ℕ) where
  -- a parsed tree as part of a larger one, whose letters are known from its own
  part_under :
      (f : Tree → Tree) (g : ℕ → ℕ) → ((t : Tree) → few (letter_count A (f t)) ≡ g (few (letter_count A t))) → (p : Result Part Refusal → Result Part Refusal) →
      ((e n : ℕ) → p (Ok (part e n)) ≡ Ok (part e (g n))) → ((x : Refusal) → p (Err x) ≡ Err x) → (x : Parsing Tree) →
      p (part_of A text x) ≡ part_of A text (then x (λ t s. found (f t) s))
  unfolding then
  part_under f g h p a b (found t r) = a (place text r) (few (letter_count A t)) ∙ ap (λ n. Ok (part (place text r) n)) (sym (h t))
  part_under f g h p a b (fault x r) = b x

  add_either : (t : Tree) (x : Parsing Tree) → add (few (letter_count A t)) (part_of A text x) ≡ part_of A text (then x (λ u s. found (either t u) s))
  unfolding letter_count
  add_either t x =
      part_under (either t) (λ m. few (few (letter_count A t) + m)) (λ u. sym (few_add (letter_count A t) (letter_count A u))) (add (few (letter_count A t)))
      (λ e n. refl) (λ x. refl) x

  add_join : (t : Tree) (x : Parsing Tree) → add (few (letter_count A t)) (part_of A text x) ≡ part_of A text (then x (λ u s. found (join t u) s))
  unfolding letter_count
  add_join t x =
      part_under (join t) (λ m. few (few (letter_count A t) + m)) (λ u. sym (few_add (letter_count A t) (letter_count A u))) (add (few (letter_count A t)))
      (λ e n. refl) (λ x. refl) x

  times_repeated :
      (t : Tree) (x : Parsing Count) → repeated (few (letter_count A t)) (repeats_of text x) ≡ part_of A text (then x (λ c s. found (times t c) s))
  unfolding then letter_count
  times_repeated t (found (between n m) r) = ap (λ n. Ok (part (place text r) n)) (few_times m (letter_count A t))
  times_repeated t (found (onward n) r) = ap (λ n. Ok (part (place text r) n)) (few_times (copies_of (onward n)) (letter_count A t))
  times_repeated t (fault x r) = refl

  -- The steps, with the test as an argument.
  abbrev bar : Bool → ℕ → Tree → List ℕ → Parsing Tree
  bar b d t s = elim b [ true ↦ then (parse A m_alternation d (rest s)) (λ u r. found (either t u) r) | false ↦ found t s ]

  abbrev last : Bool → ℕ → Tree → List ℕ → Parsing Tree
  last b d t s = elim b [ true ↦ found t s | false ↦ then (parse A m_branch d s) (λ u r. found (join t u) r) ]

  abbrev repeating : Bool → Tree → List ℕ → Parsing Tree
  repeating b t s = elim b [ true ↦ then (repetition s) (λ c r. found (times t c) r) | false ↦ found t s ]

  abbrev closing : Bool → Tree → List ℕ → Parsing Tree
  closing b t s = elim b [ true ↦ found (group t) (rest s) | false ↦ fault refusal.MisplacedSign s ]

  abbrev opening : Bool → ℕ → List ℕ → Parsing Tree
  opening b d s = elim b [ true ↦ grouped (parse A m_alternation) d s | false ↦ set_tree A s ]

  -- A refusal is passed on.
  then_refused :
      (f : Tree → List ℕ → Parsing Tree) (x : Refusal) (y : Parsing Tree) → Err x ≡ part_of A text y → Err x ≡ part_of A text (then y f)
  unfolding then
  then_refused f x (found t r) h = let z : ◌≡◌ {A = ℕ} 0 1 = cc in absurd (omega arith)
  then_refused f x (fault n r) h = h

  module _ (d at : ℕ) (x : Refusal) where
    pub alternation_refused : Err x ≡ part_at A text m_branch d at → Err x ≡ part_at A text m_alternation d at
    unfolding step
    alternation_refused h =
        then_refused _ x (parse A m_branch d (drop at text)) h ∙ ap (part_of A text) (sym (parse_step A m_alternation d (drop at text)))

    pub branch_refused : Err x ≡ part_at A text m_piece d at → Err x ≡ part_at A text m_branch d at
    unfolding step
    branch_refused h = then_refused _ x (parse A m_piece d (drop at text)) h ∙ ap (part_of A text) (sym (parse_step A m_branch d (drop at text)))

    pub piece_refused : Err x ≡ part_at A text m_group d at → Err x ≡ part_at A text m_piece d at
    unfolding step
    piece_refused h = then_refused _ x (parse A m_group d (drop at text)) h ∙ ap (part_of A text) (sym (parse_step A m_piece d (drop at text)))

  -- A group: in parentheses, or a set.
  by_open : (d at : ℕ) (b : Bool) → eqb (get_or text at 0) (code "(") ≡ b → parse A m_group d (drop at text) ≡ opening b d (drop at text)
  unfolding step
  by_open d at b k = parse_step A m_group d (drop at text) ∙ ap (λ t. opening t d (drop at text)) (next_at "(" text at refl ∙ k)

  pub group_set : (d at : ℕ) → (get_or text at 0 ≡ code "(" → ⊥) → part_of A text (set_tree A (drop at text)) ≡ part_at A text m_group d at
  group_set d at k = ap (part_of A text) (sym (by_open d at false (ne_eqb (get_or text at 0) (code "(") k)))

  pub group_deep : (d at : ℕ) → get_or text at 0 ≡ code "(" → d ≡ 0 → Err refusal.Depth ≡ part_at A text m_group d at
  unfolding grouped
  group_deep d at k z =
      sym (ap (part_of A text) (by_open d at true (eq-eqb (get_or text at 0) (code "(") k) ∙ ap (λ i. grouped (parse A m_alternation) i (drop at text)) z))

  -- the content, with its `)` or without
  closed_content :
      (d at : ℕ) (x : Parsing Tree) → parse A m_alternation d (drop at text) ≡ x →
      closed text (part_of A text x) ≡ part_of A text (then x (λ t s. closing (next ")" s) t s))
  unfolding then letter_count
  closed_content d at (fault x r) k = refl
  closed_content d at (found t r) k = by (eqb (get_or text (place text r) 0) (code ")")) refl ∙ ap (λ b. part_of A text (closing b t r)) (sym test)
    where
      rests : drop (place text r) text ≡ r
      rests =
          let f = part_found A text m_alternation d at (place text r) (few (letter_count A t)) (sym (ap (part_of A text) k)) in
          let e : found t r ≡ found f.tree (drop (place text r) text) = sym k ∙ f.reads in
          cc

      test : next ")" r ≡ eqb (get_or text (place text r) 0) (code ")")
      test = ap (next ")") (sym rests) ∙ next_at ")" text (place text r) refl

      by :
          (b : Bool) → eqb (get_or text (place text r) 0) (code ")") ≡ b →
          cond b (Ok (part (place text r + 1) (few (letter_count A t)))) (Err refusal.MisplacedSign) ≡ part_of A text (closing b t r)
      by true e =
          let l = byte_is text (place text r) 40 (eqb-true (get_or text (place text r) 0) (code ")") e) in
          let q : rest r ≡ drop (place text r + 1) text = ap rest (sym rests) ∙ rest_at text (place text r) in
          ap (λ i. Ok (part i (few (letter_count A t)))) (sym (ap (place text) q ∙ place_drop text (place text r + 1) (omega arith)))
      by false e = refl

  pub group_closed :
      (d at : ℕ) → get_or text at 0 ≡ code "(" → (d ≡ 0 → ⊥) → closed text (part_at A text m_alternation (d - 1) (at + 1)) ≡ part_at A text m_group d at
  unfolding grouped
  group_closed zero at k z = absurd (z refl)
  group_closed (suc d) at k z =
      let e : suc d - 1 ≡ d = omega arith in
      ap (λ i. closed text (part_at A text m_alternation i (at + 1))) e
      ∙ closed_content d (at + 1) (parse A m_alternation d (drop (at + 1) text)) refl
      ∙ ap (λ s. part_of A text (then (parse A m_alternation d s) (λ t s. closing (next ")" s) t s))) (sym (rest_at text at))
      ∙ ap (part_of A text) (sym (by_open (suc d) at true (eq-eqb (get_or text at 0) (code "(") k)))

-- A parsed part, to which nothing is added.
alone : {A text : List ℕ} {m : Mode} {d at e n : ℕ} (f : Found A text m d at e n) → Ok (part e n) ≡ part_of A text (found f.tree (drop e text))
alone {text = text} {e = e} f = ap₂ (λ i j. Ok (part i j)) (sym (place_drop text e f.within)) f.letters

-- A parsed branch: there is a `|` after it, or none.
module _ {A text : List ℕ} {d at e n : ℕ} (f : Found A text m_branch d at e n) where
  by_bar : (b : Bool) → eqb (get_or text e 0) (code "|") ≡ b → parse A m_alternation d (drop at text) ≡ bar A text b d f.tree (drop e text)
  unfolding step then
  by_bar b k =
      parse_step A m_alternation d (drop at text) ∙ ap (λ x. then x (λ t s. bar A text (next "|" s) d t s)) f.reads
      ∙ ap (λ t. bar A text t d f.tree (drop e text)) (next_at "|" text e refl ∙ k)

  pub alternation_alone : (get_or text e 0 ≡ code "|" → ⊥) → Ok (part e n) ≡ part_at A text m_alternation d at
  alternation_alone k = alone f ∙ ap (part_of A text) (sym (by_bar false (ne_eqb (get_or text e 0) (code "|") k)))

  pub alternation_more : get_or text e 0 ≡ code "|" → add n (part_at A text m_alternation d (e + 1)) ≡ part_at A text m_alternation d at
  alternation_more k =
      ap (λ i. add i (part_at A text m_alternation d (e + 1))) f.letters
      ∙ add_either A text f.tree (parse A m_alternation d (drop (e + 1) text))
      ∙ ap (λ s. part_of A text (then (parse A m_alternation d s) (λ u r. found (either f.tree u) r))) (sym (rest_at text e))
      ∙ ap (part_of A text) (sym (by_bar true (eq-eqb (get_or text e 0) (code "|") k)))

-- A parsed piece: the branch ends after it, or goes on.
module _ {A text : List ℕ} {d at e n : ℕ} (f : Found A text m_piece d at e n) where
  by_end : (b : Bool) → ends (drop e text) ≡ b → parse A m_branch d (drop at text) ≡ last A text b d f.tree (drop e text)
  unfolding step then
  by_end b k =
      parse_step A m_branch d (drop at text) ∙ ap (λ x. then x (λ t s. last A text (ends s) d t s)) f.reads
      ∙ ap (λ t. last A text t d f.tree (drop e text)) k

  pub branch_last : ends (drop e text) ≡ true → Ok (part e n) ≡ part_at A text m_branch d at
  branch_last k = alone f ∙ ap (part_of A text) (sym (by_end true k))

  pub branch_more : ends (drop e text) ≡ false → add n (part_at A text m_branch d e) ≡ part_at A text m_branch d at
  branch_more k =
      ap (λ i. add i (part_at A text m_branch d e)) f.letters ∙ add_join A text f.tree (parse A m_branch d (drop e text))
      ∙ ap (part_of A text) (sym (by_end false k))

-- A parsed group: there is a repetition after it, or none.
module _ {A text : List ℕ} {d at e n : ℕ} (f : Found A text m_group d at e n) where
  by_sign : (b : Bool) → repeats (drop e text) ≡ b → parse A m_piece d (drop at text) ≡ repeating A text b f.tree (drop e text)
  unfolding step then
  by_sign b k =
      parse_step A m_piece d (drop at text) ∙ ap (λ x. then x (λ t s. repeating A text (repeats s) t s)) f.reads
      ∙ ap (λ t. repeating A text t f.tree (drop e text)) k

  pub piece_plain : repeats (drop e text) ≡ false → Ok (part e n) ≡ part_at A text m_piece d at
  piece_plain k = alone f ∙ ap (part_of A text) (sym (by_sign false k))

  pub piece_repeated : repeats (drop e text) ≡ true → repeated n (repeats_of text (repetition (drop e text))) ≡ part_at A text m_piece d at
  piece_repeated k =
      ap (λ i. repeated i (repeats_of text (repetition (drop e text)))) f.letters
      ∙ times_repeated A text f.tree (repetition (drop e text)) ∙ ap (part_of A text) (sym (by_sign true k))
