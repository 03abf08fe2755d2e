-- `positions_letters::copies_at` meets its contract.
use Rattle.std.specs.Prelude.{ℕ, ◌≡◌, List, Bool, true, false, not, drop, Some, None, Result, Ok}
use Rattle.std.specs.Option.{is_some, unwrap_or}
use Rattle.std.specs.Result.{IsOk}
use Rattle.std.proofs.Common.{sym, ap, ◌∙◌, refl, subst, arith}
use Rattle.regex_tree.specs.Tree.{Count, between, onward}
use Rattle.regex_tree.specs.Parsing.{Parsing, found, fault}
use Rattle.regex_tree.specs.Letters.{copies_of}
use Rattle.refusal.specs.declared.Refusal.{Refusal}
use Rattle.regex_bracket.specs.Answers.{is_found}
use Rattle.regex_tree.specs.Repetition.{repeats, repetition}
use Rattle.regex_repetition.specs.declared.Repeats.{Repeats}
use Rattle.regex_repetition.specs.Answers.{several, repeats_of}
use Rattle.text.specs.Places.{place}
use Rattle.positions_letters.specs.FoundLaws.{counted_repeated, not_found}
use Rattle.positions_letters.specs.Copies.{copies_by}
use Rattle.positions_letters.specs.SetLaws.{copied, copies_one}
use Rattle.positions_letters.proofs.copies_at.Goals as goal

limited : (o : Bool) → true ≡ not o → o ≡ false
limited false h = refl
limited true h = let z : ◌≡◌ {A = ℕ} 0 1 = cc in absurd (omega arith)

unlimited : (o : Bool) → false ≡ not o → o ≡ true
unlimited true h = refl
unlimited false h = let z : ◌≡◌ {A = ℕ} 0 1 = cc in absurd (omega arith)

-- a repetition that was found is no refusal
repeats_ok : (text : List ℕ) (x : Parsing Count) → is_found x ≡ true → IsOk (repeats_of text x)
repeats_ok text (found (between a b) s) h = refl
repeats_ok text (found (onward a) s) h = refl
repeats_ok text (fault n s) h = not_found h

-- the copies of a repetition that was found
module _ (text : List ℕ) (r : Repeats) (m : ℕ) (o : Bool) where
  copies_found :
      (x : Parsing Count) → Ok r ≡ repeats_of text x → m ≡ unwrap_or r.most (copies_of (onward r.least)) → is_some r.most ≡ not o
      → copied r.least m o r.end ≡ copies_by text x
  copies_found (found (between a b) s) h =
      let e : r ≡ several a (Some b) (place text s) = cc in
      subst
      (λ (y : Repeats). m ≡ unwrap_or y.most (copies_of (onward y.least)) → is_some y.most ≡ not o
      → copied y.least m o y.end ≡ copies_by text (found (between a b) s))
      (sym e) (λ p q. rw (p, limited o q) refl)
  copies_found (found (onward a) s) h =
      let e : r ≡ several a None (place text s) = cc in
      subst
      (λ (y : Repeats). m ≡ unwrap_or y.most (copies_of (onward y.least)) → is_some y.most ≡ not o
      → copied y.least m o y.end ≡ copies_by text (found (onward a) s))
      (sym e) (λ p q. rw (p, unlimited o q) refl)
  copies_found (fault x s) h = let z : ◌≡◌ {A = ℕ} 0 1 = cc in absurd (omega arith)

pub returns-then-not-is_repeated : goal.returns-then-not-is_repeated
returns-then-not-is_repeated c = copies_one c.args.text.now c.args.at c.requires.0 (sym c.is_repeated.ensures ∙ c.if-not-is_repeated.true)

pub unwrap-r-requires : goal.unwrap-r-requires
unwrap-r-requires c =
    let text = c.args.text.now in
    let at = c.args.at in
    let k : repeats (drop at text) ≡ true = sym c.is_repeated.ensures ∙ c.if-not-is_repeated.false in
    subst (λ (v : Result Repeats Refusal). IsOk v) (sym c.repetition.ensures) (repeats_ok text (repetition (drop at text)) (ap is_found (sym (counted_repeated (drop at text) k)) ∙ c.requires.1))

pub returns : goal.returns
returns c =
    let text = c.args.text.now in
    let at = c.args.at in
    let r = c.unwrap-r.result in
    copies_found text r c.unwrap_or.result c.is_none.result (repetition (drop at text)) (sym c.unwrap-r.ensures ∙ c.repetition.ensures)
    (c.unwrap_or.ensures ∙ ap (unwrap_or r.most) c.copies.ensures) c.is_none.ensures
    ∙ ap (copies_by text) (sym (counted_repeated (drop at text) (sym c.is_repeated.ensures ∙ c.if-not-is_repeated.false)))
