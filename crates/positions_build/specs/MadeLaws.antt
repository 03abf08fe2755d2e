-- A part that was parsed from a place of the text on; and the parts that make an alternation or a branch, by the steps of the parser.
use Rattle.std.specs.Prelude.{◌≡◌, refl, List, [], Bool, true, false, ℕ, ◌+◌, ◌≤◌, ◌<◌, length, get_or, drop, eqb}
use Rattle.std.proofs.Common.{sym, ap, subst, ◌∙◌, arith, length-drop, eq-eqb, ne_eqb}
use Prim.Native.Char.{code}
use Rattle.regex_tree.specs.Tree.{only, Tree, set, join, either}
use Rattle.regex_tree.specs.Parsing.{Parsing, found, fault, then}
use Rattle.text.specs.Text.{next, rest}
use Rattle.text.specs.Places.{place}
use Rattle.regex_tree.specs.Parse.{Mode, m_alternation, m_branch, m_piece, ends, step, parse}
use Rattle.regex_tree.proofs.SaysLaws.{of_found}
use Rattle.regex_tree.proofs.SenseLaws.{Sensible, sensible}
use Rattle.regex_tree.proofs.FrontLaws.{Front, Stop}
use Rattle.regex_tree.proofs.Sound.{parse_sound}
use Rattle.regex_tree.proofs.StepsLaws.{parse_step, parse_forward}
use Rattle.text.proofs.TextLaws.{beyond, next_at, rest_at}
use Rattle.regex_bracket.specs.Answers.{is_found}
use Rattle.positions_letters.specs.Found.{rest_of, tree_of}
use Rattle.positions_letters.specs.FoundLaws.{not_found, then_first, then_is}
use Rattle.positions_build.specs.Places.{PartAt, tree_at, end_at}

-- x is made of a and then b
pub record Two (g : Tree → Tree → Tree) (a b x : Parsing Tree) : Type 0 where
  pub second : is_found b ≡ true
  pub tree : tree_of x ≡ g (tree_of a) (tree_of b)
  pub beyond : rest_of x ≡ rest_of b

two : (g : Tree → Tree → Tree) (a b x : Parsing Tree) → x ≡ then b (λ u r. found (g (tree_of a) u) r) → is_found x ≡ true → Two g a b x
unfolding then
two g a b x e h = subst (Two g a b) (sym e) (by b (ap is_found (sym e) ∙ h))
  where
    by : (b : Parsing Tree) → is_found (then b (λ u r. found (g (tree_of a) u) r)) ≡ true → Two g a b (then b (λ u r. found (g (tree_of a) u) r))
    by (found u r) h = record { second = refl; tree = refl; beyond = refl }
    by (fault n r) h = not_found h

module _ (A text : List ℕ) where
  -- a part was found from a place on: where it ends, and that its tree makes sense
  pub record ParsedPart (at : ℕ) (x : Parsing Tree) : Type 0 where
    pub is : x ≡ found (tree_of x) (drop (place text (rest_of x)) text)
    pub rests : rest_of x ≡ drop (place text (rest_of x)) text
    pub ahead : at < place text (rest_of x)
    pub within : place text (rest_of x) ≤ length text
    pub sense : Sensible A (tree_of x)

  pub parsed_part : (m : Mode) (d at : ℕ) → PartAt A text m d at → ParsedPart at (parse A m d (drop at text))
  parsed_part m d at h = by (parse A m d (drop at text)) refl h
    where
      by : (x : Parsing Tree) → parse A m d (drop at text) ≡ x → is_found x ≡ true → ParsedPart at x
      by (found t r) k h =
          let s = drop at text in
          let f : Front A m d s t r = of_found (Front A m d s) (Stop A m d s) (parse A m d s) t r (parse_sound A m d s) k in
          let l = parse_forward A m d s t r k in
          let n = length-drop at text in
          let b = beyond text at f.front r (omega arith) f.splits in
          record {
            is = ap (found t) (sym b.rests);
            rests = sym b.rests;
            ahead = omega arith;
            within = b.ends;
            sense = sensible A t d f.front f.text;
          }
      by (fault n r) k h = not_found h

  -- A part was found, and f goes on after it.
  module _ (m : Mode) (d at : ℕ) (f : Tree → List ℕ → Parsing Tree) (x : Parsing Tree) (s : x ≡ then (parse A m d (drop at text)) f) (h : is_found x ≡ true) where
    pub first_found : PartAt A text m d at
    first_found = then_first f (parse A m d (drop at text)) (ap is_found (sym s) ∙ h)

    pub goes_on : (e : ℕ) → e ≡ end_at A text m d at → x ≡ f (tree_at A text m d at) (drop e text)
    goes_on e q =
        s ∙ then_is f (set (only [])) (parse A m d (drop at text)) first_found
        ∙ ap (f (tree_at A text m d at)) ((parsed_part m d at first_found).rests ∙ ap (λ i. drop i text) (sym q))

    ends_there : (e : ℕ) → e ≡ end_at A text m d at → x ≡ found (tree_at A text m d at) (drop e text) → x ≡ parse A m d (drop at text)
    ends_there e q k = k ∙ ap (λ i. found (tree_at A text m d at) (drop i text)) q ∙ sym (parsed_part m d at first_found).is

  module _ (d at : ℕ) where
    -- branches with `|` between them
    abbrev bar : Bool → Tree → List ℕ → Parsing Tree
    bar b t s = elim b [ true ↦ then (parse A m_alternation d (rest s)) (λ u r. found (either t u) r) | false ↦ found t s ]

    abbrev beyond_branch : Tree → List ℕ → Parsing Tree
    beyond_branch t s = bar (next "|" s) t s

    module _ (h : PartAt A text m_alternation d at) where
      alternation_step : parse A m_alternation d (drop at text) ≡ then (parse A m_branch d (drop at text)) beyond_branch
      unfolding step
      alternation_step = parse_step A m_alternation d (drop at text)

      pub branch_found : PartAt A text m_branch d at
      branch_found = first_found m_branch d at beyond_branch (parse A m_alternation d (drop at text)) alternation_step h

      module _ (e : ℕ) (q : e ≡ end_at A text m_branch d at) where
        by_bar : (b : Bool) → eqb (get_or text e 0) (code "|") ≡ b → parse A m_alternation d (drop at text) ≡ bar b (tree_at A text m_branch d at) (drop e text)
        by_bar b k =
            goes_on m_branch d at beyond_branch (parse A m_alternation d (drop at text)) alternation_step h e q
            ∙ ap (λ b. bar b (tree_at A text m_branch d at) (drop e text)) (next_at "|" text e refl ∙ k)

        pub alternation_alone : (get_or text e 0 ≡ code "|" → ⊥) → parse A m_alternation d (drop at text) ≡ parse A m_branch d (drop at text)
        alternation_alone k =
            ends_there m_branch d at beyond_branch (parse A m_alternation d (drop at text)) alternation_step h e q
            (by_bar false (ne_eqb (get_or text e 0) (code "|") k))

        pub alternation_more :
            get_or text e 0 ≡ code "|"
            → Two either (parse A m_branch d (drop at text)) (parse A m_alternation d (drop (e + 1) text)) (parse A m_alternation d (drop at text))
        alternation_more k =
            let b = parse A m_branch d (drop at text) in
            two either b (parse A m_alternation d (drop (e + 1) text)) (parse A m_alternation d (drop at text))
            (by_bar true (eq-eqb (get_or text e 0) (code "|") k)
            ∙ ap (λ s. then (parse A m_alternation d s) (λ u r. found (either (tree_of b) u) r)) (rest_at text e))
            h

    -- pieces joined
    abbrev last : Bool → Tree → List ℕ → Parsing Tree
    last b t s = elim b [ true ↦ found t s | false ↦ then (parse A m_branch d s) (λ u r. found (join t u) r) ]

    abbrev beyond_piece : Tree → List ℕ → Parsing Tree
    beyond_piece t s = last (ends s) t s

    module _ (h : PartAt A text m_branch d at) where
      branch_step : parse A m_branch d (drop at text) ≡ then (parse A m_piece d (drop at text)) beyond_piece
      unfolding step
      branch_step = parse_step A m_branch d (drop at text)

      pub piece_found : PartAt A text m_piece d at
      piece_found = first_found m_piece d at beyond_piece (parse A m_branch d (drop at text)) branch_step h

      module _ (e : ℕ) (q : e ≡ end_at A text m_piece d at) where
        by_end : (b : Bool) → ends (drop e text) ≡ b → parse A m_branch d (drop at text) ≡ last b (tree_at A text m_piece d at) (drop e text)
        by_end b k =
            goes_on m_piece d at beyond_piece (parse A m_branch d (drop at text)) branch_step h e q
            ∙ ap (λ b. last b (tree_at A text m_piece d at) (drop e text)) k

        pub branch_last : ends (drop e text) ≡ true → parse A m_branch d (drop at text) ≡ parse A m_piece d (drop at text)
        branch_last k = ends_there m_piece d at beyond_piece (parse A m_branch d (drop at text)) branch_step h e q (by_end true k)

        pub branch_more :
            ends (drop e text) ≡ false
            → Two join (parse A m_piece d (drop at text)) (parse A m_branch d (drop e text)) (parse A m_branch d (drop at text))
        branch_more k =
            two join (parse A m_piece d (drop at text)) (parse A m_branch d (drop e text)) (parse A m_branch d (drop at text)) (by_end false k) h
