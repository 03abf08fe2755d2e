-- The parts of a text at their places, as the parser answers them, and what is known of a parsed part.
use Rattle.std.specs.Prelude.{◌≡◌, refl, List, ℕ, ◌≤◌, ◌<◌, length, drop}
use Rattle.std.proofs.Common.{sym, ap, ◌∙◌, arith, length-drop}
use Rattle.regex_tree.specs.Tree.{Tree}
use Rattle.regex_tree.specs.Parsing.{Parsing, found, fault}
use Rattle.regex_tree.specs.Letters.{letter_count}
use Rattle.regex_tree.specs.Few.{few}
use Rattle.regex_tree.specs.Parse.{Mode, parse}
use Rattle.regex_tree.proofs.SaysLaws.{of_found}
use Rattle.regex_tree.proofs.FrontLaws.{Front, Stop}
use Rattle.regex_tree.proofs.Sound.{parse_sound}
use Rattle.regex_tree.proofs.StepsLaws.{parse_forward}
use Rattle.regex_set.specs.declared.Part.{Part}
use Rattle.refusal.specs.declared.Refusal.{Refusal}
use Rattle.std.specs.Prelude.{Result, Ok, Err}
use Rattle.text.proofs.TextLaws.{beyond}
use Rattle.text.specs.Places.{place}
use Rattle.regex_set.specs.Answers.{part, part_of}

part_in : Result Part Refusal → Part
part_in (Ok p) = p
part_in (Err n) = part 0 0

module _ (A text : List ℕ) where
  -- the part at a place
  abbrev pub part_at : Mode → ℕ → ℕ → Result Part Refusal
  part_at m d at = part_of A text (parse A m d (drop at text))

  -- a parsed part
  pub record Found (m : Mode) (d at e n : ℕ) : Type 0 where
    pub tree : Tree
    pub reads : parse A m d (drop at text) ≡ found tree (drop e text)
    pub letters : n ≡ few (letter_count A tree)
    pub ahead : at < e
    pub within : e ≤ length text

  pub part_found : (m : Mode) (d at e n : ℕ) → Ok (part e n) ≡ part_at m d at → Found m d at e n
  unfolding part_in
  part_found m d at e n h = by (parse A m d (drop at text)) refl h
    where
      by : (x : Parsing Tree) → parse A m d (drop at text) ≡ x → Ok (part e n) ≡ part_of A text x → Found m d at e n
      by (found t r) k h =
          let s : List ℕ = drop at text in
          let f : Front A m d s t r = of_found (Front A m d s) (Stop A m d s) (parse A m d s) t r (parse_sound A m d s) k in
          let l = parse_forward A m d (drop at text) t r k in
          let n₁ = length-drop at text in
          let b = beyond text at f.front r (omega arith) f.splits in
          let q : e ≡ place text r = ap (λ x. (part_in x).end) h in
          let m : n ≡ few (letter_count A t) = ap (λ x. (part_in x).letters) h in
          record {
            tree = t;
            reads = k ∙ ap (found t) (sym b.rests ∙ ap (λ i. drop i text) (sym q));
            letters = m;
            ahead = omega arith;
            within = let w = b.ends in omega arith;
          }
      by (fault x r) k h = let z : ◌≡◌ {A = ℕ} 0 1 = cc in absurd (omega arith)
