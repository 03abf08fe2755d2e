-- A set is parsed from its own bytes alone and has a label, or is refused at its first byte.
use Rattle.std.specs.Prelude.{◌≡◌, refl, true, ℕ, ◌≤◌}
use Rattle.std.proofs.Math.Option.{Option, some, none}
use mathlib.Core.List.{List, [], ◌∷◌}
use Rattle.std.proofs.Math.Bool.{false}
use Prim.Native.Char.{code}
use Rattle.std.proofs.Common.{arith}
use Rattle.std.proofs.Math.Dec.{eqb}
use borrow.Author.Tests.{eqb-false}
use Rattle.refusal.specs.declared.Refusal.TheVariants as refusal
use Rattle.regex_tree.specs.Tree.{Range, Set, only, except}
use Rattle.regex_tree.specs.Letters.{labels_of}
use Rattle.regex_tree.specs.Parsing.{found, fault, then, enclosed}
use Rattle.lists.specs.Cases.{first_of}
use Rattle.regex_tree.specs.Sets.{Sign, closed, Item, members, ranges_of, known, inside, bracket, special, escaped, a_set, labelled_set}
use Rattle.regex_tree.proofs.ClosedLaws.{Writes, closed_written}
use Rattle.regex_tree.proofs.SaysLaws.{Says, branch_says, first_says, then_says, says_map}
use Rattle.regex_tree.proofs.OwnLaws.{Here, Own, own_one, own_more, own_same, Ends, enclosed_own, OwnAs, Alone}

closed_ends : (s : List ℕ) → Ends (closed true) s (closed true s)
closed_ends s = by (closed true s) (closed_written true s)
  where
    by : (y : Option (List Sign × List ℕ)) → Writes (closed true) [] s y → Ends (closed true) s y
    by none o = tt
    by (some x) o = record { own = o.own; splits = o.splits; alone = λ w v. o.alone v }

inside_says : (f : List Range → Set) (w s : List ℕ) → Says (OwnAs (inside f) s) (Here w) (inside f w s)
unfolding inside then known
inside_says f w s =
    then_says _ (OwnAs (inside f) s) (Here w) (Here w) (enclosed refusal.Bracket w members (closed true s)) (known f w)
    (enclosed_own refusal.Bracket w members (closed true) s (closed_ends s)) (λ n r h. h)
    (λ is r h. by is r (ranges_of is) refl h.0)
  where
    by :
        (is : List Item) (r : List ℕ) (y : Option (List Range)) → ranges_of is ≡ y →
        Own {W = List ℕ} (λ w t. enclosed refusal.Bracket w members (closed true t)) (found is) s r →
        Says (OwnAs (inside f) s) (Here w) (elim y [ none ↦ fault refusal.ClassName w | some rs ↦ found (f rs) r ])
    by is r none e o = refl
    by is r (some rs) e o =
        record { own = o.own; splits = o.splits; alone = λ w v. rw (o.alone w v, inside) (rw (e, known)) }

inside_none : (f : List Range → Set) (w : List ℕ) → inside f w [] ≡ fault refusal.Bracket w
unfolding inside then enclosed closed
inside_none f w = refl

bracket_says : (w s : List ℕ) → Says (OwnAs bracket s) (Here w) (bracket w s)
unfolding bracket
bracket_says w [] = rw (inside_none only w) refl
bracket_says w (b ∷ s) =
    branch_says (OwnAs bracket (b ∷ s)) (Here w) (eqb b (code "^")) _ _
    (λ e. says_map (OwnAs (inside except) s) _ (Here w) (inside except w s) (inside_says except w s)
    (λ c r o. own_more bracket (found c) (inside except) b s r (λ w t. (w, rw (e, bracket))) o))
    (λ e. says_map (OwnAs (inside only) (b ∷ s)) _ (Here w) (inside only w (b ∷ s)) (inside_says only w (b ∷ s))
    (λ c r o. own_same (inside only) (found c) bracket w b s r (not_none c) (λ w t. rw (e, bracket)) o))
  where
    not_none : (c : Set) → inside only w [] ≡ found c [] → ⊥
    not_none c k = let e = inside_none only w in let z : ◌≡◌ {A = ℕ} 0 1 = cc in omega arith

escaped_says : (w s : List ℕ) → Says (OwnAs escaped s) (Here w) (escaped w s)
unfolding escaped
escaped_says w [] = refl
escaped_says w (b ∷ s) =
    branch_says (OwnAs escaped (b ∷ s)) (Here w) (special b) _ _
    (λ e. own_one escaped _ b s (λ w t. rw (e, escaped)))
    (λ e. refl)

a_set_says : (s : List ℕ) → Says (Alone a_set s) (Here s) (a_set s)
unfolding a_set first_of
a_set_says [] = refl
a_set_says (b ∷ s) =
    let w = b ∷ s in
    let or_else = first_says (Alone a_set w) (Here w) in
    or_else (eqb b (code "\\")) _ _ _
    (λ e₁. says_map (OwnAs escaped s) _ (Here w) (escaped w s) (escaped_says w s)
    (λ c r o. own_more (λ _. a_set) (found c) escaped b s r (λ _ t. (b ∷ t, rw (e₁, a_set))) o))
    (λ e₁. or_else (eqb b (code ".")) _ _ _
    (λ e₂. own_one (λ _. a_set) _ b s (λ _ t. rw (e₁, a_set) (rw e₂)))
    (λ e₂. or_else (eqb b (code "[")) _ _ _
    (λ e₃. says_map (OwnAs bracket s) _ (Here w) (bracket w s) (bracket_says w s)
    (λ c r o. own_more (λ _. a_set) (found c) bracket b s r (λ _ t. (b ∷ t, rw (e₁, a_set) (rw (e₂, e₃)))) o))
    (λ e₃. or_else (special b) _ _ _
    (λ e₄. refl)
    (λ e₄. own_one (λ _. a_set) _ b s (λ _ t. rw (e₄, a_set) (rw (e₁, e₂, e₃)))))))

module _ (A : List ℕ) where
  -- a set with a label, parsed from its own bytes
  abbrev pub ASet : List ℕ → Set → List ℕ → Type 0
  ASet s c r = Alone (labelled_set A) s c r × (1 ≤ labels_of A c)

  pub labelled_set_says : (s : List ℕ) → Says (ASet s) (Here s) (labelled_set A s)
  unfolding labelled_set then
  labelled_set_says s =
      then_says (Alone a_set s) (ASet s) (Here s) (Here s) (a_set s) _ (a_set_says s) (λ n r h. h)
      (λ c r o. branch_says (ASet s) (Here s) (eqb (labels_of A c) 0) _ _ (λ e. refl) (by c r o))
    where
      by : (c : Set) (r : List ℕ) → Alone a_set s c r → eqb (labels_of A c) 0 ≡ false → ASet s c r
      by c r o e =
          let k = eqb-false (labels_of A c) 0 e in
          (record { own = o.own; splits = o.splits; alone = λ w v. rw (o.alone w v, labelled_set) (rw (e, then)) }, omega arith)
