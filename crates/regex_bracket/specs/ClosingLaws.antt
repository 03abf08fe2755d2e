-- The closing `]` of a bracket: the search for it, and what is between the first sign and it.
use Rattle.std.proofs.Math.Path.{◌≡◌, refl, sym, ap}
use Rattle.std.proofs.Common.{◌∙◌, arith, length-drop, length-append, eq-eqb, ne_eqb, lt-ltb, le-ltb}
use Rattle.std.proofs.Math.Option.{Option, some, none}
use mathlib.Core.List.{List, [], ◌∷◌, ◌++◌, append_assoc, flat_map}
use Rattle.std.proofs.Math.Bool.{true, false}
use Rattle.std.specs.Prelude.{ℕ, ◌+◌, ◌-◌, ◌≤◌, ◌<◌, length, get_or, take, eqb}
use Prim.Native.Char.{code}
use Rattle.std.proofs.Math.ListN.{drop}
use Rattle.std.proofs.Math.Seq.{take-append_seam}
use Rattle.lists.specs.Cases.{provided}
use Rattle.lists.proofs.EachLaws.{drop_all}
use Rattle.lists.specs.Options.{is_some}
use Rattle.text.specs.Text.{in_front}
use Rattle.regex_tree.specs.Sets.{Sign, closes, closed, sign_bytes, reserved, members}
use Rattle.regex_tree.proofs.ClosedLaws.{Written, closed_written}
use Rattle.regex_signs.specs.Signs.{sign, sign_width, signs}
use Rattle.regex_signs.specs.SignsLaws.{closed_at, step_at, sign_width_some}
use Rattle.regex_items.specs.Items.{Closing, left}
use Rattle.regex_items.specs.LeftLoops.{left_first, closing_first}
use Rattle.regex_bracket.specs.Answers.{after, beyond, formed}

-- The search for the closing `]`: what the text from place i on gives.

after_front : (g : Sign) (y : Option (List Sign × List ℕ)) → after (in_front g y) ≡ after y
after_front g none = refl
after_front g (some x) = refl

module _ (text : List ℕ) (first i : ℕ) where
  abbrev after_from : Option (List ℕ)
  after_from = after (closed (eqb i first) (drop i text))

  pub after_here : i < length text → closes (eqb i first) (get_or text i 0) ≡ true → beyond text i ≡ after_from
  unfolding beyond
  after_here l e = rw (lt-ltb i (length text) l) (sym (ap after (closed_at text i (eqb i first) e)))

  pub after_past : first ≤ i → closes (eqb i first) (get_or text i 0) ≡ false → after_from ≡ after (closed (eqb (i + sign_width (drop i text)) first) (drop (i + sign_width (drop i text)) text))
  after_past l e =
      let n : eqb (i + sign_width (drop i text)) first ≡ false = ne_eqb (i + sign_width (drop i text)) first (λ z. omega (arith, sign_width_some text i)) in
      ap after (step_at text i (eqb i first) e) ∙ after_front (sign (drop i text)) (closed false (drop (i + sign_width (drop i text)) text))
      ∙ ap (λ t. after (closed t (drop (i + sign_width (drop i text)) text))) (sym n)

  pub after_end : length text ≤ i → beyond text i ≡ after_from
  unfolding beyond closed
  after_end l = rw (le-ltb i (length text) l, drop_all text i l)

pub after_first : (text : List ℕ) (first : ℕ) → after (closed (eqb first first) (drop first text)) ≡ after (closed true (drop first text))
after_first text first = rw (eq-eqb first first refl)

-- the signs inside, where the first is at `first`
abbrev inner : List ℕ → ℕ → List Sign
inner text first = signs (closed true (drop first text))

-- the closing `]` is at e
record Inside (text : List ℕ) (first e : ℕ) : Type 0 where
  order : first ≤ e
  within : e < length text
  shuts : closed true (drop first text) ≡ some (inner text first, drop (e + 1) text)

module _ {text : List ℕ} {first e : ℕ} (i : Inside text first e) where
  -- the inside is written as its signs are
  inside_bytes : take (e - first) (drop first text) ≡ flat_map sign_bytes (inner text first)
  inside_bytes =
      let o : Written (closed true) [] (drop first text) (inner text first, drop (e + 1) text) =
      (rw i.shuts at (closed_written true (drop first text))) in
      let bs = flat_map sign_bytes (inner text first) in
      let q : drop first text ≡ bs ++ (code "]" ∷ drop (e + 1) text) =
      o.splits ∙ ap (λ (u : List ℕ). u ++ drop (e + 1) text) o.reads ∙ append_assoc bs (code "]" ∷ []) (drop (e + 1) text) in
      let n : length text - first ≡ length bs + length (code "]" ∷ drop (e + 1) text) =
      sym (length-drop first text) ∙ ap length q ∙ length-append bs (code "]" ∷ drop (e + 1) text) in
      let m = length-drop (e + 1) text in
      let l = i.within in
      let h = i.order in
      let k : e - first ≡ length bs = omega arith in
      ap (λ n. take n (drop first text)) k ∙ ap (take (length bs)) q ∙ take-append_seam bs (code "]" ∷ drop (e + 1) text)

  inside_members : formed (closed true (drop first text)) ≡ members (inner text first)
  inside_members = ap formed i.shuts

-- The closing `]` is at e, or there is none.
module _ (text : List ℕ) (first e : ℕ) (order : first ≤ e) (is : beyond text e ≡ after (closed true (drop first text))) where
  pub formed_open : length text ≤ e → false ≡ is_some (formed (closed true (drop first text)))
  unfolding beyond
  formed_open l = by (closed true (drop first text)) (sym is ∙ rw (le-ltb e (length text) l))
    where
      by : (y : Option (List Sign × List ℕ)) → after y ≡ none → false ≡ is_some (formed y)
      by none k = refl
      by (some x) k = let z : ◌≡◌ {A = ℕ} 0 1 = cc in absurd (omega arith)

  module _ (l : e < length text) where
    is_inside : Inside text first e
    unfolding beyond
    is_inside = record { order = order; within = l; shuts = by (closed true (drop first text)) (sym is ∙ rw (lt-ltb e (length text) l)) }
      where
        by : (y : Option (List Sign × List ℕ)) → after y ≡ some (drop (e + 1) text) → y ≡ some (signs y, drop (e + 1) text)
        by none k = let z : ◌≡◌ {A = ℕ} 0 1 = cc in absurd (omega arith)
        by (some x) k = let q : x.1 ≡ drop (e + 1) text = cc in ap (λ (r : List ℕ). some (x.0, r)) q

    pub formed_reserved : reserved (take (e - first) (drop first text)) ≡ true → false ≡ is_some (formed (closed true (drop first text)))
    unfolding members provided
    formed_reserved r =
        let q : members (inner text first) ≡ none = rw (sym (inside_bytes is_inside), members) (rw r) in
        sym (ap is_some (inside_members is_inside ∙ q))

    pub formed_closing : Closing text first first
    formed_closing = closing_first text first (ap is_some is_inside.shuts)

    pub formed_left : reserved (take (e - first) (drop first text)) ≡ false → left text first first ≡ formed (closed true (drop first text))
    unfolding members provided
    formed_left r = left_first text first ∙ sym (inside_members is_inside ∙ rw (sym (inside_bytes is_inside), members) (rw r))
