-- Every fault that the parser gives is at its place.
use Rattle.std.specs.Prelude.{◌≡◌, ◌⊎◌, Bool, false, ◌||◌, eqb}
use Rattle.std.proofs.Math.Path.{refl}
use Rattle.std.proofs.Common.{ap₂, arith, eqb-true}
use Rattle.std.proofs.Math.Logic.{inl, inr}
use Rattle.std.proofs.Math.Option.{Option, some, none}
use mathlib.Core.List.{List, [], ◌∷◌, flat_map}
use Rattle.std.proofs.Math.Bool.{true}
use Prim.Native.Nat.{ℕ, zero, suc, ◌<◌}
use Prim.Native.Char.{code}
use Rattle.lists.proofs.EachLaws.{all_each}
use Rattle.lists.specs.Each.{all}
use Rattle.refusal.specs.declared.Refusal.{Refusal}
use Rattle.refusal.specs.declared.Refusal.TheVariants as refusal
use Rattle.text.specs.Bytes.{bytes}
use Rattle.regex_tree.specs.Tree.{Range, range, Count, Set, only, except, Tree}
use Rattle.regex_tree.specs.Letters.{labels_of}
use Rattle.regex_tree.specs.Classes.{classes, look_up, class_ranges}
use Rattle.regex_tree.specs.Parsing.{Parsing, found, fault, then, enclosed}
use Rattle.text.specs.Text.{one_of, next, rest, split}
use Rattle.lists.specs.Cases.{first_of, provided}
use Rattle.regex_tree.specs.Sets.{closed, reserved, items, members, ranges_of, known, inside, bracket, special, alone, escaped, a_set, labelled_set}
use Rattle.regex_tree.specs.Repetition.{repeats, number, from_to, counts, sign, repetition}
use Rattle.regex_tree.specs.Parse.{Mode, m_alternation, m_branch, m_piece, m_group, ends, grouped, step, measure, parse, whole, expression_of}
use Rattle.regex_tree.proofs.OwnLaws.{of_one}
use Rattle.regex_tree.proofs.SaysLaws.{Says, of_fault, says_found, branch_says, first_says, enclosed_says, then_says}
use Rattle.regex_tree.proofs.StepsLaws.{rest_length, rest_less, parse_forward, parse_step}
use Rattle.regex_tree.specs.Places.{misplaced, Place, at_sign, at_group, at_braces, at_bracket, at_class, at_set}

end_misplaced : (s : List ℕ) → ends s ≡ true → misplaced s ≡ true
end_misplaced [] e = refl
end_misplaced (b ∷ s) e = of_one (λ c. misplaced (c ∷ s) ≡ true) (bytes "|)") b (refl, (refl, tt)) e

special_misplaced : (b : ℕ) (s : List ℕ) → special b ≡ true → one_of (bytes "(.[") b ≡ false → misplaced (b ∷ s) ≡ true
special_misplaced b s e k =
    rw k at (of_one (λ c. either c ≡ true) (bytes "^.[$()|*+?{\\") b (all_each either (λ c. either c ≡ true) (λ c h. h) (bytes "^.[$()|*+?{\\") refl) e)
  where
    either : ℕ → Bool
    either c = one_of (bytes "(.[") c || misplaced (c ∷ s)

module _ (A : List ℕ) where
  -- a fault is at its place, and P holds of what is found
  abbrev Placed : {X : Type 0} → (X → List ℕ → Type 0) → Parsing X → Type 0
  Placed P x = Says P (Place A) x

  abbrev Any : {X : Type 0} → X → List ℕ → Type 0
  Any a r = Unit {0}

  then_placed :
      {X Y : Type 0} (P : X → List ℕ → Type 0) (P' : Y → List ℕ → Type 0) (x : Parsing X) (f : X → List ℕ → Parsing Y) →
      Placed P x → ((a : X) (r : List ℕ) → P a r → Placed P' (f a r)) → Placed P' (then x f)
  then_placed P P' x f h g = then_says P P' (Place A) (Place A) x f h (λ n r p. p) g

  -- the refusal n, at the text w
  abbrev At : Refusal → List ℕ → Refusal → List ℕ → Type 0
  At n w m r = (m ≡ n) × (r ≡ w)

  at_placed : {X : Type 0} (n : Refusal) (w : List ℕ) (x : Parsing X) → Says Any (At n w) x → (x ≡ fault n w → Place A n w) → Placed Any x
  at_placed n w (found a r) h g = tt
  at_placed n w (fault m r) h g = rw (h.0, h.1) (g (ap₂ fault h.0 h.1))

  -- refusal 7 or 19, at the text w
  abbrev AtBracket : List ℕ → Refusal → List ℕ → Type 0
  AtBracket w m r = At refusal.Bracket w m r ⊎ At refusal.ClassName w m r

  inside_at : (f : List Range → Set) (w s : List ℕ) → Says Any (AtBracket w) (inside f w s)
  unfolding inside known
  inside_at f w s =
      then_says Any Any (At refusal.Bracket w) (AtBracket w) (enclosed refusal.Bracket w members (closed true s)) (known f w)
      (enclosed_says Any (At refusal.Bracket w) refusal.Bracket w members (closed true s) (refl, refl) (λ x is e q. tt)) (λ n r p. inl p)
      (λ is r h. by (ranges_of is) r)
    where
      by : (y : Option (List Range)) (r : List ℕ) → Says {X = Set} Any (AtBracket w) (elim y [ none ↦ fault refusal.ClassName w | some rs ↦ found (f rs) r ])
      by none r = inr (refl, refl)
      by (some rs) r = tt

  bracket_at : (w s : List ℕ) → Says Any (AtBracket w) (bracket w s)
  unfolding bracket
  bracket_at w s = branch_says Any (AtBracket w) (next "^" s) _ _ (λ e. inside_at except w (rest s)) (λ e. inside_at only w s)

  bracket_placed :
      (w : List ℕ) (x : Parsing Set) → Says Any (AtBracket w) x → (x ≡ fault refusal.Bracket w → Place A refusal.Bracket w) →
      (x ≡ fault refusal.ClassName w → Place A refusal.ClassName w) → Placed Any x
  bracket_placed w (found c r) h f g = tt
  bracket_placed w (fault m r) (inl h) f g = at_placed refusal.Bracket w (fault m r) h f
  bracket_placed w (fault m r) (inr h) f g = at_placed refusal.ClassName w (fault m r) h g

  escaped_placed : (w s : List ℕ) → misplaced w ≡ true → Placed Any (escaped w s)
  unfolding escaped
  escaped_placed w [] k = at_sign k
  escaped_placed w (b ∷ s) k = branch_says Any (Place A) (special b) _ _ (λ e. tt) (λ e. at_sign k)

  a_set_placed : (s : List ℕ) → next "(" s ≡ false → Placed Any (a_set s)
  unfolding a_set first_of
  a_set_placed [] k = at_sign refl
  a_set_placed (b ∷ s) k =
      let or_else = first_says {X = Set} Any (Place A) in
      or_else (eqb b (code "\\")) _ _ _ (λ e₁. escaped_placed (b ∷ s) s (rw (eqb-true b (code "\\") e₁)))
      (λ e₁. or_else (eqb b (code ".")) _ _ _ (λ e₂. tt)
      (λ e₂. or_else (eqb b (code "[")) _ _ _
      (λ e₃. bracket_placed (b ∷ s) (bracket (b ∷ s) s) (bracket_at (b ∷ s) s)
      (λ q. at_bracket e₃ (rw (e₁, a_set) (rw (e₂, e₃) q))) (λ q. at_class e₃ (rw (e₁, a_set) (rw (e₂, e₃) q))))
      (λ e₃. or_else (special b) _ _ _ (λ e₄. at_sign (special_misplaced b s e₄ (rw (k, e₂, e₃)))) (λ e₄. tt))))

  labelled_set_placed : (s : List ℕ) → next "(" s ≡ false → Placed Any (labelled_set A s)
  unfolding labelled_set
  labelled_set_placed s k =
      then_placed _ Any (a_set s) _ (says_found Any (Place A) (a_set s) (a_set_placed s k))
      (λ c r h. branch_says Any (Place A) (eqb (labels_of A c) 0) _ _ (λ e. at_set c r h.1 (eqb-true (labels_of A c) 0 e)) (λ e. tt))

  sign_placed : (s : List ℕ) → repeats s ≡ true → Placed Any (sign s)
  unfolding sign first_of
  sign_placed [] k = at_sign refl
  sign_placed (b ∷ s) k =
      let or_else = first_says {X = Count} Any (Place A) in
      or_else (eqb b (code "*")) _ _ _ (λ e. tt)
      (λ e₁. or_else (eqb b (code "+")) _ _ _ (λ e. tt)
      (λ e₂. or_else (eqb b (code "?")) _ _ _ (λ e. tt)
      (λ e₃. or_else (eqb b (code "{")) _ _ _
      (λ e. at_placed refusal.Count (b ∷ s) (enclosed refusal.Count (b ∷ s) counts (split "}" s))
      (enclosed_says Any (At refusal.Count (b ∷ s)) refusal.Count (b ∷ s) counts (split "}" s) (refl, refl) (λ x c q h. tt))
      (λ q. at_braces e (rw (e₁, sign) (rw (e₂, e₃, e) q))))
      (λ e₄. at_sign (of_one (λ c. misplaced (c ∷ s) ≡ true) (bytes "*+?{") b (refl, (refl, (refl, (refl, tt)))) k)))))

  repetition_placed : (s : List ℕ) → repeats s ≡ true → Placed Any (repetition s)
  unfolding repetition
  repetition_placed s k =
      then_placed Any Any (sign s) _ (sign_placed s k) (λ c r h. branch_says Any (Place A) (next "?" r) _ _ (λ e. tt) (λ e. tt))

  -- the text after a tree: after a branch or an alternation it ends, or `|` or `)` is next
  abbrev After : Mode → Tree → List ℕ → Type 0
  After m_group t r = Unit {0}
  After m_piece t r = Unit {0}
  After m_branch t r = ends r ≡ true
  After m_alternation t r = ends r ≡ true

  -- A step's faults are at their places, if those in less text, or in the same text in a closer mode, are.
  module _ (k : ℕ) (h : (m : Mode) (d : ℕ) (s : List ℕ) → measure m s < k → Placed (After m) (parse A m d s)) where
    -- with the equation, which shows that less text is left
    parse_found : (m : Mode) (d : ℕ) (s : List ℕ) → measure m s < k → Placed (λ t r. After m t r × (parse A m d s ≡ found t r)) (parse A m d s)
    parse_found m d s l = says_found (After m) (Place A) (parse A m d s) (h m d s l)

    grouped_placed : (d : ℕ) (s : List ℕ) → measure m_group s < suc k → next "(" s ≡ true → Placed Any (grouped (parse A m_alternation) d s)
    unfolding grouped
    grouped_placed zero s l e = at_group e
    grouped_placed (suc d) s l e =
        let f = rest_less "(" s e in
        then_placed (After m_alternation) Any (parse A m_alternation d (rest s)) _ (h m_alternation d (rest s) (omega arith))
        (λ t s₁ g. branch_says Any (Place A) (next ")" s₁) _ _ (λ q. tt) (λ q. at_sign (end_misplaced s₁ g)))

    step_placed : (m : Mode) (d : ℕ) (s : List ℕ) → measure m s < suc k → Placed (After m) (step A (parse A) m d s)
    unfolding step
    step_placed m_alternation d s l =
        then_placed _ (After m_alternation) (parse A m_branch d s) _ (parse_found m_branch d s (omega arith))
        (λ t s₁ g. branch_says (After m_alternation) (Place A) (next "|" s₁) _ _
        (λ e. let f = parse_forward A m_branch d s t s₁ g.1 in let f₁ = rest_length s₁ in
        then_placed (After m_alternation) (After m_alternation) (parse A m_alternation d (rest s₁)) _ (h m_alternation d (rest s₁) (omega arith)) (λ u r q. q))
        (λ e. g.0))
    step_placed m_branch d s l =
        then_placed _ (After m_branch) (parse A m_piece d s) _ (parse_found m_piece d s (omega arith))
        (λ t s₁ g. branch_says (After m_branch) (Place A) (ends s₁) _ _ (λ e. e)
        (λ e. let f = parse_forward A m_piece d s t s₁ g.1 in
        then_placed (After m_branch) (After m_branch) (parse A m_branch d s₁) _ (h m_branch d s₁ (omega arith)) (λ u r q. q)))
    step_placed m_piece d s l =
        then_placed (After m_group) (After m_piece) (parse A m_group d s) _ (h m_group d s (omega arith))
        (λ t s₁ g. branch_says (After m_piece) (Place A) (repeats s₁) _ _
        (λ e. then_placed Any (After m_piece) (repetition s₁) _ (repetition_placed s₁ e) (λ c r q. tt)) (λ e. tt))
    step_placed m_group d s l =
        branch_says (After m_group) (Place A) (next "(" s) _ _ (grouped_placed d s l)
        (λ e. then_placed Any (After m_group) (labelled_set A s) _ (labelled_set_placed s e) (λ c r q. tt))

  parse_placed : (k : ℕ) (m : Mode) (d : ℕ) (s : List ℕ) → measure m s < k → Placed (After m) (parse A m d s)
  parse_placed zero m d s l = absurd (omega arith)
  parse_placed (suc k) m d s l = rw (parse_step A m d s) (step_placed k (parse_placed k) m d s l)

  whole_placed : (t : Tree) (r : List ℕ) → ends r ≡ true → Placed Any (whole t r)
  unfolding whole
  whole_placed t [] g = tt
  whole_placed t (b ∷ r) g = at_sign (end_misplaced (b ∷ r) g)

  -- A text is refused at the refusal's place.
  pub refused_at : (s : List ℕ) (n : Refusal) (r : List ℕ) → expression_of A s ≡ fault n r → Place A n r
  unfolding expression_of
  refused_at s n r e =
      of_fault Any (Place A) (expression_of A s) n r
      (then_placed (After m_alternation) Any (parse A m_alternation 16 s) whole
      (parse_placed (suc (measure m_alternation s)) m_alternation 16 s (omega arith)) whole_placed)
      e

-- A text with nothing wrong at its front is no such place: `a`, `{2}`, `[a]`, `[[:lower:]]`, and over `a` the
-- character itself.
record NoPlaces : Type 0 where
  sign_place : Place (bytes "a") refusal.MisplacedSign (bytes "a") → ⊥
  group_place : Place (bytes "a") refusal.Depth (bytes "a") → ⊥
  braces_place : Place (bytes "a") refusal.Count (bytes "{2}") → ⊥
  bracket_place : Place (bytes "a") refusal.Bracket (bytes "[a]") → ⊥
  class_place : Place (bytes "a") refusal.ClassName (bytes "[[:lower:]]") → ⊥
  set_place : Place (bytes "a") refusal.Foreign (bytes "a") → ⊥
  -- nor is a place of 19 one of 7, or the other way round
  class_not_bracket : Place (bytes "a") refusal.Bracket (bytes "[[:x:]]") → ⊥
  bracket_not_class : Place (bytes "a") refusal.ClassName (bytes "[b-a]") → ⊥

plain_bracket : a_set (bytes "[a]") ≡ found (only (range 97 97 ∷ [])) []
unfolding a_set first_of bracket inside enclosed closed members reserved items provided flat_map ranges_of known then
plain_bracket = refl

known_class : a_set (bytes "[[:lower:]]") ≡ found (only (range 97 122 ∷ [])) []
unfolding a_set first_of bracket inside enclosed closed members reserved items provided flat_map ranges_of class_ranges look_up classes known then
known_class = refl

unknown_class : a_set (bytes "[[:x:]]") ≡ fault refusal.ClassName (bytes "[[:x:]]")
unfolding a_set first_of bracket inside enclosed closed members reserved items provided flat_map ranges_of class_ranges look_up classes known then
unknown_class = refl

descending : a_set (bytes "[b-a]") ≡ fault refusal.Bracket (bytes "[b-a]")
unfolding a_set first_of bracket inside enclosed closed members reserved items provided flat_map ranges_of known then
descending = refl

character : (a_set (bytes "a") ≡ found (alone 97) []) × (labels_of (bytes "a") (alone 97) ≡ 1)
unfolding a_set first_of labels_of
character = (refl, refl)

no_places : NoPlaces
unfolding sign first_of enclosed split counts number from_to provided
no_places = record {
  sign_place = elim [ at_sign e ↦ let z : ◌≡◌ {A = ℕ} 0 1 = cc in omega arith ];
  group_place = elim [ at_group e ↦ let z : ◌≡◌ {A = ℕ} 0 1 = cc in omega arith ];
  braces_place = elim [ at_braces k e ↦ let z : ◌≡◌ {A = ℕ} 0 1 = cc in omega arith ];
  bracket_place = elim [ at_bracket k e ↦ let q = plain_bracket in let z : ◌≡◌ {A = ℕ} 0 1 = cc in omega arith ];
  class_place = elim [ at_class k e ↦ let q = known_class in let z : ◌≡◌ {A = ℕ} 0 1 = cc in omega arith ];
  set_place = elim [ at_set c v e l ↦ let q = character.0 in let m = character.1 in let z : ◌≡◌ {A = ℕ} 0 1 = cc in omega arith ];
  class_not_bracket = elim [ at_bracket k e ↦ let q = unknown_class in let z : ◌≡◌ {A = ℕ} 0 1 = cc in omega arith ];
  bracket_not_class = elim [ at_class k e ↦ let q = descending in let z : ◌≡◌ {A = ℕ} 0 1 = cc in omega arith ];
}
